-- What a test learns of a tree by looking.
use Rattle.std.proofs.Common.{◌≡◌, false, true, [], ◌∷◌, ◌++◌, Option, Some, None, is_some, refl, sym, ap, ◌∙◌}
use Rattle.std.specs.List.{list_any}
use Rattle.std.specs.Ordering.{eq_by_cmp}
use Rattle.pv_path.specs.Paths.{Path}
use Rattle.pv_steps.specs.declared.object.Object.{Object}
use Rattle.pv_steps.specs.Trees.{Files, places, IsEmptyIn, names_below}
use Rattle.pv_steps.proofs.NameLaws.{names_below-are}
use Rattle.pv_path.specs.Names.{name_cmp}

-- a directory without names is empty
pub empty_from : (t : Files) (path : Path) → names_below t path ≡ [] → IsEmptyIn (places t) path
empty_from t path none name = absent (places t (path ++ name ∷ [])) (sym (names_below-are t path name) ∙ ap (list_any (eq_by_cmp name_cmp name)) none)
  where
    absent : (o : Option Object) → is_some o ≡ false → o ≡ None
    absent None e = refl
    absent (Some o) e = absurd (let no : true ≡ false = e in cc)
