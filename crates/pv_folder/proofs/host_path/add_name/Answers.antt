use Rattle.std.proofs.Common.{List, ◌∙◌, ◌++◌, ap, ℕ}
use Rattle.pv_folder.specs.Content.{spelled}
use Rattle.pv_folder.proofs.SpellingLaws.{spelled-add}
use Rattle.pv_folder.proofs.host_path.add_name.Goals as goal

pub returns : goal.returns
returns c =
    ap spelled (c.in_ok-extend_from_slice.ensures.items ∙ ap (λ (bytes : List ℕ). bytes ++ c.args.name.now) c.in_ok-push.ensures.items)
    ∙ spelled-add c.args.path.now.items c.args.name.now c.requires
