-- Laws of edits: what a tree has at each path after an object came, changed, went or moved, with its timestamps and without.
use Rattle.std.specs.Prelude.{◌≡◌, ◌≢◌, ℕ, Bool, true, false, cond, [], Option, Some, None, option_map}
use Rattle.std.proofs.Common.{refl, sym, ap, subst, ◌∙◌, inl, inr, ◌⊎◌}
use Rattle.pv_path.specs.Paths.{Path, same_path, is_prefix, rest_under, parent_of, has_staging, same_path-decides}
use Rattle.pv_path.proofs.PathLaws.{same_path-refl, parent_of-differs, has_staging-extends, same_path-no}
use Rattle.pv_steps.specs.declared.object.Object.{Object}
use Rattle.pv_steps.specs.Objects.{object_state, modified}
use Rattle.pv_steps.specs.Trees.{Files, Places}
use Rattle.pv_steps.specs.Steps.{put_at, on_at, touched, made, moved, moved_at}
use Rattle.pv_steps.specs.Same.{object_states, Same}
use Rattle.pv_walk.specs.Edits.{Pruned}

-- ---- one path and the others

-- two paths are the same, or the test tells them apart
pub path_cases : (p q : Path) → (p ≡ q) ⊎ (same_path p q ≡ false)
path_cases p q = by (same_path p q) refl
  where
    by : (b : Bool) → same_path p q ≡ b → (p ≡ q) ⊎ (same_path p q ≡ false)
    by true e = inl ((same_path-decides p q).0 e)
    by false e = inr e

pub put_at-here : (p : Path) (o : Option Object) (t : Places) → put_at p o t p ≡ o
put_at-here p o t = ap (λ b. cond b o (t p)) (same_path-refl p)

pub put_at-else : (p q : Path) (o : Option Object) (t : Places) → same_path p q ≡ false → put_at p o t q ≡ t q
put_at-else p q o t e = ap (λ b. cond b o (t q)) e

pub on_at-here : (p : Path) (f : Object → Object) (t : Places) → on_at p f t p ≡ option_map f (t p)
on_at-here p f t = ap (λ b. cond b (option_map f (t p)) (t p)) (same_path-refl p)

pub on_at-else : (p q : Path) (f : Object → Object) (t : Places) → same_path p q ≡ false → on_at p f t q ≡ t q
on_at-else p q f t e = ap (λ b. cond b (option_map f (t q)) (t q)) e

-- what is put where it stands changes nothing
pub put_at-same : (p : Path) (o : Option Object) (t : Places) → t p ≡ o → (q : Path) → put_at p o t q ≡ t q
put_at-same p o t is q =
    elim (path_cases p q) [
      | inl e ↦ subst (λ v. put_at p o t v ≡ t v) e (put_at-here p o t ∙ sym is)
      | inr e ↦ put_at-else p q o t e
    ]

-- of two objects that are put at a path the later stays
pub put_at-twice : (p : Path) (a b : Option Object) (t : Places) (q : Path) → put_at p b (put_at p a t) q ≡ put_at p b t q
put_at-twice p a b t q =
    elim (same_path p q) as (λ c. cond c b (cond c a (t q)) ≡ cond c b (t q)) [ true ↦ refl | false ↦ refl ]

-- a change of the object at a path puts what it gives
pub on_at-put : (p : Path) (f : Object → Object) (o : Object) (t : Places) → t p ≡ Some o → (q : Path) → on_at p f t q ≡ put_at p (Some (f o)) t q
on_at-put p f o t is q =
    elim (path_cases p q) [
      | inl e ↦ subst (λ v. on_at p f t v ≡ put_at p (Some (f o)) t v) e (on_at-here p f t ∙ ap (option_map f) is ∙ sym (put_at-here p (Some (f o)) t))
      | inr e ↦ on_at-else p q f t e ∙ sym (put_at-else p q (Some (f o)) t e)
    ]

option_map-twice : (f g : Object → Object) (o : Option Object) → option_map g (option_map f o) ≡ option_map (λ x. g (f x)) o
option_map-twice f g None = refl
option_map-twice f g (Some o) = refl

pub on_at-twice : (p : Path) (f g : Object → Object) (t : Places) (q : Path) → on_at p g (on_at p f t) q ≡ on_at p (λ o. g (f o)) t q
on_at-twice p f g t q =
    elim (same_path p q) as (λ c. cond c (option_map g (cond c (option_map f (t q)) (t q))) (cond c (option_map f (t q)) (t q)) ≡ cond c (option_map (λ o. g (f o)) (t q)) (t q)) [
      | true ↦ option_map-twice f g (t q)
      | false ↦ refl
    ]

-- ---- a new object

module _ (now : ℕ) (path : Path) (t : Places) (nonempty : path ≢ []) where
  pub made-here : (o : Object) → made now path o t path ≡ Some o
  made-here o =
      on_at-else (parent_of path) path (modified now) (put_at path (Some o) t) (same_path-no (parent_of path) path (parent_of-differs path nonempty))
      ∙ put_at-here path (Some o) t

  -- another object in the place of a new one
  pub put_at-made : (a b : Object) (q : Path) → put_at path (Some b) (made now path a t) q ≡ made now path b t q
  put_at-made a b q =
      elim (path_cases path q) [
        | inl e ↦ subst (λ v. put_at path (Some b) (made now path a t) v ≡ made now path b t v) e (put_at-here path (Some b) (made now path a t) ∙ sym (made-here b))
        | inr e ↦
            let same : put_at path (Some a) t q ≡ put_at path (Some b) t q = put_at-else path q (Some a) t e ∙ sym (put_at-else path q (Some b) t e) in
            put_at-else path q (Some b) (made now path a t) e ∙ ap (λ v. cond (same_path (parent_of path) q) (option_map (modified now) v) v) same
      ]

  -- a change of a new object is another new object
  pub on_at-made : (f : Object → Object) (o : Object) (q : Path) → on_at path f (made now path o t) q ≡ made now path (f o) t q
  on_at-made f o q = on_at-put path f o (made now path o t) (made-here o) q ∙ put_at-made o (f o) q

-- ---- without timestamps

object_state-both : (f g : Object → Object) → ((o : Object) → object_state (f o) ≡ object_state (g o)) → (o : Option Object) → option_map object_state (option_map f o) ≡ option_map object_state (option_map g o)
object_state-both f g same None = refl
object_state-both f g same (Some o) = ap Some (same o)

object_state-one : (f : Object → Object) → ((o : Object) → object_state (f o) ≡ object_state o) → (o : Option Object) → option_map object_state (option_map f o) ≡ option_map object_state o
object_state-one f same None = refl
object_state-one f same (Some o) = ap Some (same o)

object_state-past : (f : Object → Object) → ((o : Object) → object_state (f o) ≡ f (object_state o)) → (o : Option Object) → option_map object_state (option_map f o) ≡ option_map f (option_map object_state o)
object_state-past f past None = refl
object_state-past f past (Some o) = ap Some (past o)

-- changes that differ in timestamps alone
pub object_states-on_at : (p : Path) (f g : Object → Object) → ((o : Object) → object_state (f o) ≡ object_state (g o)) → (t : Places) (q : Path) → object_states (on_at p f t) q ≡ object_states (on_at p g t) q
object_states-on_at p f g same t q =
    elim (same_path p q) as (λ c. option_map object_state (cond c (option_map f (t q)) (t q)) ≡ option_map object_state (cond c (option_map g (t q)) (t q))) [
      | true ↦ object_state-both f g same (t q)
      | false ↦ refl
    ]

-- a change of timestamps alone
pub object_states-stamped : (p : Path) (f : Object → Object) → ((o : Object) → object_state (f o) ≡ object_state o) → (t : Places) (q : Path) → object_states (on_at p f t) q ≡ object_states t q
object_states-stamped p f same t q =
    elim (same_path p q) as (λ c. option_map object_state (cond c (option_map f (t q)) (t q)) ≡ option_map object_state (t q)) [
      | true ↦ object_state-one f same (t q)
      | false ↦ refl
    ]

-- a change that does not look at timestamps gives the same of trees that are the same without timestamps
pub object_states-on_both : (p : Path) (f : Object → Object) → ((o : Object) → object_state (f o) ≡ f (object_state o)) → (t u : Places) (q : Path) → object_states t q ≡ object_states u q → object_states (on_at p f t) q ≡ object_states (on_at p f u) q
object_states-on_both p f past t u q same =
    elim (same_path p q) as (λ c. option_map object_state (cond c (option_map f (t q)) (t q)) ≡ option_map object_state (cond c (option_map f (u q)) (u q))) [
      | true ↦ object_state-past f past (t q) ∙ ap (option_map f) same ∙ sym (object_state-past f past (u q))
      | false ↦ same
    ]

pub object_states-touched : (now : ℕ) (path : Path) (t : Places) (q : Path) → object_states (touched now path t) q ≡ object_states t q
object_states-touched now path t q = object_states-stamped (parent_of path) (modified now) (λ o. refl) t q

pub object_states-made : (now : ℕ) (path : Path) (o : Object) (t : Places) (q : Path) → object_states (made now path o t) q ≡ object_states (put_at path (Some o) t) q
object_states-made now path o t q = object_states-touched now path (put_at path (Some o) t) q

pub object_states-put_else : (p q : Path) (o : Option Object) (t : Places) → same_path p q ≡ false → object_states (put_at p o t) q ≡ object_states t q
object_states-put_else p q o t e = ap (option_map object_state) (put_at-else p q o t e)

pub moved_away : (now : ℕ) (from to : Path) (t : Places) (q : Path) → rest_under to q ≡ None → is_prefix from q ≡ true → moved now from to t q ≡ None
moved_away now from to t q e h = ap (moved_at now from to t q) e ∙ ap (λ b. cond b None (touched now from (touched now to t) q)) h

-- ---- trees that are the same outside a region

-- paths below a staging name have staging names
pub staging_outside : (stage : Path) → has_staging stage ≡ true → (q : Path) → has_staging q ≡ false → is_prefix stage q ≡ false
staging_outside stage s q h = by (is_prefix stage q) refl
  where
    by : (b : Bool) → is_prefix stage q ≡ b → is_prefix stage q ≡ false
    by true e = absurd (let both : true ≡ false = sym (has_staging-extends stage q e s) ∙ h in cc)
    by false e = e

pub same-Pruned : (inside : Path → Bool) → ((q : Path) → has_staging q ≡ false → inside q ≡ false) → (t u : Files) → Pruned inside t u → Same u t
same-Pruned inside apart t u h = λ q plain. h.outside q (apart q plain)

pub same-refl : (t : Files) → Same t t
same-refl t = λ q h. refl

pub same-trans : (t u v : Files) → Same t u → Same u v → Same t v
same-trans t u v a b = λ q plain. a q plain ∙ b q plain
