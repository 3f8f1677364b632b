-- Laws of paths at which nothing stands: nothing stands below, and they stay absent when an object is made elsewhere.
use Rattle.std.specs.Prelude.{◌≡◌, ℕ, true, false, cond, ◌++◌, Option, Some, None, is_some, option_map}
use Rattle.std.proofs.Common.{refl, ap, ◌∙◌}
use Rattle.pv_path.specs.Paths.{Path, same_path, is_prefix, parent_of}
use Rattle.pv_path.proofs.PathLaws.{prefix_parts}
use Rattle.pv_steps.specs.declared.object.Object.{Object}
use Rattle.pv_steps.specs.Objects.{modified}
use Rattle.pv_steps.specs.Trees.{Places, IsTreeIn, IsAbsentIn}
use Rattle.pv_steps.proofs.TreeLaws.{not_absent, present_above}
use Rattle.pv_steps.specs.Steps.{made}
use Rattle.pv_walk.proofs.EditLaws.{put_at-else}

-- ---- where nothing stands

-- below an absent path nothing stands
pub none_below : (t : Places) → IsTreeIn t → (path rest : Path) → IsAbsentIn t path → IsAbsentIn t (path ++ rest)
none_below t tree path rest h = by (t (path ++ rest)) refl
  where
    by : (o : Option Object) → t (path ++ rest) ≡ o → o ≡ None
    by None e = refl
    by (Some x) e = absurd (not_absent t path (present_above t tree path rest (ap is_some e)) h)

-- nor at or below it
pub none_under : (t : Places) → IsTreeIn t → (path q : Path) → IsAbsentIn t path → is_prefix path q ≡ true → IsAbsentIn t q
none_under t tree path q h e =
    let parts = prefix_parts path q e in
    ap t parts.1 ∙ none_below t tree path parts.0 h

-- an absent path but the one where an object is made stays absent
pub made-none : (now : ℕ) (path : Path) (o : Object) (t : Places) (q : Path) → same_path path q ≡ false → IsAbsentIn t q → IsAbsentIn (made now path o t) q
made-none now path o t q d h =
    ap (λ v. cond (same_path (parent_of path) q) (option_map (modified now) v) v) (put_at-else path q (Some o) t d ∙ h)
    ∙ elim (same_path (parent_of path) q) as (λ b. ◌≡◌ {A = Option Object} (cond {A = Option Object} b None None) None) [ true ↦ refl | false ↦ refl ]
