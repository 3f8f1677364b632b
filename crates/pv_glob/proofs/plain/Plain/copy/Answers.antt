use Rattle.std.proofs.Common.{◌∙◌}
use Rattle.std.proofs.lemmas.List.Elements.{same_from_all_zip}
use Rattle.pv_glob.proofs.Copies.{element_same}
use Rattle.pv_glob.proofs.plain.Plain.copy.Goals as goal

pub returns : goal.returns
returns c =
    same_from_all_zip _ _ _ c.in_ok-clone.ensures.cases (λ x y r. same_from_all_zip _ x y r element_same) ∙ c.self.view_is
