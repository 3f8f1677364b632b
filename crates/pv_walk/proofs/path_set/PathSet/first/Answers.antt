use Rattle.std.proofs.Common.{◌≡◌, ◌∙◌, IfSome, List, option_map, slice_get, subst, sym, true}
use Rattle.pv_path.specs.Paths.{Path}
use Rattle.pv_walk.specs.Removal.{is_one_of}
use Rattle.pv_walk.proofs.PathSetLaws.{last_member, first_of_reverse}
use Rattle.pv_walk.proofs.path_set.PathSet.first.Goals as goal

pub returns-clause-first : goal.returns-clause-first
returns-clause-first c =
    subst (λ (xs : List Path). option_map (λ path. path.now) c.last.result ≡ slice_get xs 0) c.self.view_is
    ((rw c.deref.ensures.value at c.last.ensures.value) ∙ sym (first_of_reverse c.self.inside.paths.items))

pub returns-clause-member : goal.returns-clause-member
returns-clause-member c = subst (λ (xs : List Path). IfSome c.last.result (λ path. is_one_of xs path.now ≡ true)) c.self.view_is
    (last_member c.self.inside.paths.items _ c.last.result (rw c.deref.ensures.value at c.last.ensures.value))
