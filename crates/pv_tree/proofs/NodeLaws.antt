-- The object at a path gets another node of its kind: a tree stays a tree.
use Rattle.std.proofs.Common.{◌≡◌, ◌∙◌, Bool, true, false, cond, List, [], ℕ, Option, Some, None, option_map, refl, sym, ap, subst}
use Rattle.std.specs.Prelude.{IfSome}
use Rattle.std.proofs.lemmas.Option.{same_Some}
use Rattle.pv_path.specs.Paths.{Path, parent_of, same_path, same_path-decides}
use Rattle.pv_steps.specs.declared.object.Object.{Object}
use Rattle.pv_steps.specs.Objects.{IsObject}
use Rattle.pv_steps.specs.Steps.{on_at}
use Rattle.pv_steps.specs.Trees.{Files, Places, IsTreeIn, kind_of, places}
use Rattle.pv_steps.proofs.StepLaws.{is_some-on_at}
use Rattle.pv_tree.specs.declared.slot.Slot.{Slot}
use Rattle.pv_tree.specs.Slots.{AreFree, IsForest, IsTreeOf, files_of, places_in}
use Rattle.pv_tree.proofs.Files.{places_of}

-- a change that keeps the kind of an object and leaves it whole
abbrev pub Keeps : (Object → Object) → Object → Type 0
Keeps f o = ((f o).node.kind ≡ o.node.kind) × IsObject (f o)

kind_on : (f : Object → Object) (o : Option Object) → IfSome o (Keeps f) → kind_of (option_map f o) ≡ kind_of o
kind_on f None h = refl
kind_on f (Some o) h = ap Some h.0

whole_on : (f : Object → Object) (o : Option Object) (y : Object) → IfSome o (Keeps f) → option_map f o ≡ Some y → IsObject y
whole_on f None y h e = cc
whole_on f (Some o) y h e = subst IsObject (same_Some (f o) y e) h.1

module _ (path : Path) (f : Object → Object) (t : Places) (keeps : IfSome (t path) (Keeps f)) (tree : IsTreeIn t) where
  here : (q : Path) → same_path path q ≡ true → IfSome (t q) (Keeps f)
  here q e = subst (λ (p : Path). IfSome (t p) (Keeps f)) ((same_path-decides path q).0 e) keeps

  kind_still : (q : Path) → kind_of (on_at path f t q) ≡ kind_of (t q)
  kind_still q = by (same_path path q) refl
    where
      by : (b : Bool) → same_path path q ≡ b → kind_of (cond b (option_map f (t q)) (t q)) ≡ kind_of (t q)
      by true e = kind_on f (t q) (here q e)
      by false e = refl

  whole_still : (q : Path) (y : Object) (b : Bool) → same_path path q ≡ b → cond b (option_map f (t q)) (t q) ≡ Some y → IsObject y
  whole_still q y true e is = whole_on f (t q) y (here q e) is
  whole_still q y false e is = tree.objects q y is

  pub still_tree : IsTreeIn (on_at path f t)
  still_tree = record {
    root = kind_still [] ∙ tree.root;
    parents = λ q h other. kind_still (parent_of q) ∙ tree.parents q (sym (is_some-on_at path f t q) ∙ h) other;
    names = λ q h. tree.names q (sym (is_some-on_at path f t q) ∙ h);
    objects = λ q y. whole_still q y (same_path path q) refl;
  }

-- ---- of slots

pub set_places : (slots new : List Slot) (t : Files) (path : Path) (f : Object → Object) → files_of slots ≡ t → IsForest slots → IsForest new
    → places_in new ≡ on_at path f (places_in slots) → places (files_of new) ≡ on_at path f (places t)
set_places slots new t path f same forest kept is = places_of new kept ∙ is ∙ ap (on_at path f) (sym (places_of slots forest) ∙ ap places same)

pub set_tree : (slots new : List Slot) (free : List ℕ) (t : Files) (path : Path) (f : Object → Object) → files_of slots ≡ t → IsTreeOf slots free → IsForest new → AreFree new free
    → places_in new ≡ on_at path f (places_in slots) → IfSome (places t path) (Keeps f) → IsTreeOf new free
set_tree slots new free t path f same h kept spare is keeps = record {
  forest = kept;
  spare = spare;
  tree = subst IsTreeIn (sym (set_places slots new t path f same h.forest kept is)) (still_tree path f (places t) keeps (subst (λ (v : Files). IsTreeIn (places v)) same h.tree));
}
