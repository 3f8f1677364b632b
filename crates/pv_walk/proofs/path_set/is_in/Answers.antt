use Rattle.std.proofs.Common.{◌≡◌, ◌∙◌, rules}
use Rattle.std.proofs.lemmas.Fn.{always_returns_same}
use Rattle.pv_path.specs.Paths.{path_cmp}
use Rattle.pv_walk.proofs.PathSetLaws.{found}
use Rattle.pv_walk.proofs.path_set.is_in.Goals as goal

pub returns : goal.returns
returns c =
    c.is_ok.ensures.value
    ∙ found c.args.path.now c.args.paths.now c.binary_search_by.result c.requires
    (c.binary_search_by.ensures.position (λ q. path_cmp c.args.path.now q) (always_returns_same _ (λ a r. r ≡ path_cmp c.args.path.now a.0.now) _ (λ a r q k. search rules)))
