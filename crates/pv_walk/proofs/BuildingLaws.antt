-- Laws of a tree in which a copy is being made at a path: what each piece of work needs, leaves and does.
use Rattle.std.specs.Prelude.{◌≡◌, ◌≢◌, ℕ, ◌≤◌, Bool, true, false, cond, List, [], ◌∷◌, ◌++◌, length, Option, Some, None, is_some, option_map}
use Rattle.std.proofs.Common.{refl, sym, ap, subst, ◌∙◌, inl, inr, ◌⊎◌, append_assoc, arith, length-append}
use Rattle.std.proofs.lemmas.List.{append-nil}
use Rattle.std.proofs.lemmas.Bool.{cases_Bool}
use Rattle.pv_walk.specs.declared.object_state.ObjectState.{ObjectState}
use Rattle.pv_walk.specs.declared.object_state.Body.{Body}
use Rattle.pv_walk.specs.declared.object_state.Metadata.{Metadata}
use Rattle.pv_walk.specs.SettingMetadata.{IsMetadata, CanSetMetadata, ChangedAt, IsChanged, GivesMetadata, with_metadata}
use Rattle.pv_walk.specs.Edits.{SameOutside}
use Rattle.pv_walk.specs.Nodes.{object_state_of, object_states_of}
use Rattle.pv_walk.proofs.EditLaws.{path_cases, made-here, put_at-here, put_at-else, object_states-touched}
use Rattle.pv_path.specs.Paths.{Path, is_prefix, same_path, parent_of, rest_under}
use Rattle.pv_path.proofs.PathLaws.{rest_under-append, rest_under-None, prefix_parts, length-parent_of, is_prefix-append, path_ends, parent_of-push, same_path-refl}
use Rattle.pv_steps.specs.declared.node.Kind.TheVariants.{Directory}
use Rattle.pv_steps.specs.declared.step.Step.{Step}
use Rattle.pv_steps.specs.Objects.{object_state, changed, modified}
use Rattle.pv_steps.specs.Same.{object_states}
use Rattle.pv_steps.specs.Steps.{HasRoom, made, touched}
use Rattle.pv_steps.specs.Trees.{Files, Places, places, kind_of, IsKindIn, IsAbsentIn}
use Rattle.pv_walk.specs.declared.listing.Piece.TheVariants.{Make, Give}
use Rattle.pv_walk.specs.declared.new_file.NewKind.{NewKind}
use Rattle.pv_walk.specs.declared.new_file.NewKind.TheVariants as new
use Rattle.pv_walk.specs.Copying.{object_of, standing, with_subtree, GivesObjectState, IsNeeded}
use Rattle.pv_walk.specs.Making.{make_step, held_object, BeginsNew}
use Rattle.pv_walk.specs.Pieces.{what_of, plain, IsWhole, after_piece, HasPlace}
use Rattle.pv_walk.specs.Staging.{new_kind}
use Rattle.pv_walk.proofs.RemovalLaws.{no_same}
use Rattle.pv_path.proofs.Tests.{true_not_false}

-- these objects stand at and below a path, all timestamps now, and else the tree is the old one; the directory of the path has
-- changed once something stands there
pub record IsBuilt (now : ℕ) (stage : Path) (s : Path → Option ObjectState) (t u : Files) : Type 0 where
  pub inside : (r : Path) → places u (stage ++ r) ≡ option_map (object_of now) (s r)
  pub outside : (((r : Path) → s r ≡ None) × (places u ≡ places t)) ⊎ ((is_some (s []) ≡ true) × ((q : Path) → is_prefix stage q ≡ false → places u q ≡ touched now stage (places t) q))

-- a place of the copy lies in a directory of the copy that is there
pub record IsWithin (now : ℕ) (stage : Path) (s : Path → Option ObjectState) (t u : Files) (rest : Path) : Type 0 where
  pub above : Path
  pub name : List ℕ
  pub is : rest ≡ above ++ name ∷ []
  pub dir : option_map (λ (o : ObjectState). o.body.kind) (s above) ≡ Some Directory
  pub top : is_some (s []) ≡ true
  pub outside : (q : Path) → is_prefix stage q ≡ false → places u q ≡ touched now stage (places t) q

-- what follows a path is found again
pub rest_same : (stage r q : Path) → stage ++ r ≡ stage ++ q → r ≡ q
rest_same stage r q e = let both : Some r ≡ Some q = sym (rest_under-append stage r) ∙ ap (rest_under stage) e ∙ rest_under-append stage q in cc

-- a place above the top of a copy, or below it
parent_below : (stage r : Path) (n : List ℕ) → parent_of (stage ++ (r ++ n ∷ [])) ≡ stage ++ r
parent_below stage r n = ap parent_of (sym (append_assoc stage r (n ∷ []))) ∙ parent_of-push (stage ++ r) n

some_none : {A : Type 0} (o : Option A) → is_some o ≡ true → o ≡ None → ⊥
some_none o h e = let no : false ≡ true = sym (ap is_some e) ∙ h in cc

pub kind_object : (now : ℕ) (o : Option ObjectState) → kind_of (option_map (object_of now) o) ≡ option_map (λ (b : ObjectState). b.body.kind) o
kind_object now None = refl
kind_object now (Some b) = refl

-- a directory of the copy that gains a child has all timestamps now already
settled : (now : ℕ) (c : Bool) (o : Option ObjectState) → cond c (option_map (modified now) (option_map (object_of now) o)) (option_map (object_of now) o) ≡ option_map (object_of now) o
settled now true None = refl
settled now true (Some b) = refl
settled now false o = refl

-- what stands is what is built, timestamps aside
pub object_states_built : (now : ℕ) (stage : Path) (s : Path → Option ObjectState) (t u : Files) → IsBuilt now stage s t u → (r : Path) → object_states_of (places u) (stage ++ r) ≡ s r
object_states_built now stage s t u b r = ap (option_map object_state_of) (b.inside r) ∙ again (s r)
  where
    again : (o : Option ObjectState) → option_map object_state_of (option_map (object_of now) o) ≡ o
    again None = refl
    again (Some x) = refl

-- what a subtree leaves, at and below its path and elsewhere
module _ (now : ℕ) (stage : Path) (nonempty : stage ≢ []) (t : Files) where
  parent_else : (r : Path) → same_path (parent_of stage) (stage ++ r) ≡ false
  parent_else r = no_same (parent_of stage) (stage ++ r) (λ e.
      let l = ap length e in
      omega (arith, l, length-append stage r, length-parent_of stage, some stage nonempty))
    where
      some : (p : Path) → p ≢ [] → 1 ≤ length p
      some [] h = absurd (h refl)
      some (n ∷ p) h = omega arith

  pub with_inside : (s : Path → Option ObjectState) (r : Path) → with_subtree now stage s (places t) (stage ++ r) ≡ option_map (object_of now) (s r)
  with_inside s r =
      ap (λ b. cond b (option_map (modified now) (standing now s (places t (stage ++ r)) (rest_under stage (stage ++ r)))) (standing now s (places t (stage ++ r)) (rest_under stage (stage ++ r)))) (parent_else r)
      ∙ ap (standing now s (places t (stage ++ r))) (rest_under-append stage r)

  pub with_outside : (s : Path → Option ObjectState) (q : Path) → is_prefix stage q ≡ false → with_subtree now stage s (places t) q ≡ touched now stage (places t) q
  with_outside s q h = ap (λ v. cond (same_path (parent_of stage) q) (option_map (modified now) v) v) (ap (standing now s (places t q)) (rest_under-None stage q h))

module _ (now : ℕ) (stage : Path) (nonempty : stage ≢ []) (t : Files) (parent : IsKindIn Directory (places t) (parent_of stage)) where
  -- nothing is made yet
  pub built_start : ((r : Path) → IsAbsentIn (places t) (stage ++ r)) → IsBuilt now stage (λ q. None) t t
  built_start free = record { inside = free; outside = inl ((λ r. refl), refl) }

  -- so nothing else has changed, timestamps aside
  pub built_outside : (s : Path → Option ObjectState) (u : Files) → IsBuilt now stage s t u → SameOutside (is_prefix stage) t u
  built_outside s u b q h = by b.outside
    where
      by : (((r : Path) → s r ≡ None) × (places u ≡ places t)) ⊎ ((is_some (s []) ≡ true) × ((q : Path) → is_prefix stage q ≡ false → places u q ≡ touched now stage (places t) q)) → object_states (places u) q ≡ object_states (places t) q
      by (inl e) = ap (λ (x : Places). object_states x q) e.1
      by (inr e) = ap (option_map object_state) (e.1 q h) ∙ object_states-touched now stage (places t) q

  pub not_empty : (r : Path) → stage ++ r ≢ []
  not_empty r = by stage nonempty
    where
      by : (p : Path) → p ≢ [] → p ++ r ≢ []
      by [] h e = h refl
      by (n ∷ p) h e = cc

  -- ---- the end

  pub built_end : (s : Path → Option ObjectState) (u : Files) → IsBuilt now stage s t u → is_some (s []) ≡ true → places u ≡ with_subtree now stage s (places t)
  built_end s u b top = λ i q. at q (cases_Bool (is_prefix stage q)) i
    where
      touched_else : (((r : Path) → s r ≡ None) × (places u ≡ places t)) ⊎ ((is_some (s []) ≡ true) × ((q : Path) → is_prefix stage q ≡ false → places u q ≡ touched now stage (places t) q)) → (q : Path) → is_prefix stage q ≡ false → places u q ≡ touched now stage (places t) q
      touched_else (inl e) q h = absurd (some_none (s []) top (e.0 []))
      touched_else (inr e) q h = e.1 q h

      at : (q : Path) → (is_prefix stage q ≡ true) ⊎ (is_prefix stage q ≡ false) → places u q ≡ with_subtree now stage s (places t) q
      at q (inl h) =
          let parts = prefix_parts stage q h in
          ap (places u) parts.1 ∙ b.inside parts.0 ∙ sym (with_inside now stage nonempty t s parts.0) ∙ sym (ap (with_subtree now stage s (places t)) parts.1)
      at q (inr h) = touched_else b.outside q h ∙ sym (with_outside now stage nonempty t s q h)

  -- ---- one place of the copy

  module _ (s : Path → Option ObjectState) (u : Files) (b : IsBuilt now stage s t u) (rest : Path) where
    pub here_outside : (q : Path) → is_prefix stage q ≡ false → same_path (stage ++ rest) q ≡ false
    here_outside q h = no_same (stage ++ rest) q (λ e. true_not_false (is_prefix stage q) (ap (is_prefix stage) (sym e) ∙ is_prefix-append stage rest) h)

    pub here_else : (r : Path) → same_path rest r ≡ false → same_path (stage ++ rest) (stage ++ r) ≡ false
    here_else r d = no_same (stage ++ rest) (stage ++ r) (λ e. true_not_false (same_path rest r) (ap (same_path rest) (sym (rest_same stage rest r e)) ∙ same_path-refl rest) d)

    -- ---- an object is made there

    module _ (none : s rest ≡ None) (place : HasPlace s rest) where
      place_for : ((rest ≡ []) × (places u ≡ places t)) ⊎ IsWithin now stage s t u rest
      place_for = by b.outside place
        where
          parts : (is_some (s []) ≡ true) × (option_map (λ (o : ObjectState). o.body.kind) (s (parent_of rest)) ≡ Some Directory) → ((q : Path) → is_prefix stage q ≡ false → places u q ≡ touched now stage (places t) q)
              → (rest ≡ []) ⊎ ((q : Path) × (n : List ℕ) × (rest ≡ q ++ n ∷ [])) → IsWithin now stage s t u rest
          parts h out (inl root) = absurd (some_none (s []) h.0 (ap s (sym root) ∙ none))
          parts h out (inr (q, n, is)) = record {
            above = q;
            name = n;
            is = is;
            dir = ap (λ (p : Path). option_map (λ (o : ObjectState). o.body.kind) (s p)) (sym (ap parent_of is ∙ parent_of-push q n)) ∙ h.1;
            top = h.0;
            outside = out;
          }

          by : (((r : Path) → s r ≡ None) × (places u ≡ places t)) ⊎ ((is_some (s []) ≡ true) × ((q : Path) → is_prefix stage q ≡ false → places u q ≡ touched now stage (places t) q)) → HasPlace s rest
              → ((rest ≡ []) × (places u ≡ places t)) ⊎ IsWithin now stage s t u rest
          by (inl e) (inl root) = inl (root, e.1)
          by (inl e) (inr h) = absurd (some_none (s []) h.0 (e.0 []))
          by (inr e) (inl root) = absurd (some_none (s []) e.0 (ap s (sym root) ∙ none))
          by (inr e) (inr h) = inr (parts h e.1 (path_ends rest))

      top_here : rest ≡ [] → stage ++ rest ≡ stage
      top_here root = ap (λ (r : Path). stage ++ r) root ∙ append-nil stage

      above_here : (w : IsWithin now stage s t u rest) → parent_of (stage ++ rest) ≡ stage ++ w.above
      above_here w = ap (λ (r : Path). parent_of (stage ++ r)) w.is ∙ parent_below stage w.above w.name

      pub room : HasRoom (places u) (stage ++ rest)
      room = (b.inside rest ∙ ap (option_map (object_of now)) none, by place_for)
        where
          by : ((rest ≡ []) × (places u ≡ places t)) ⊎ IsWithin now stage s t u rest → IsKindIn Directory (places u) (parent_of (stage ++ rest))
          by (inl e) = ap (λ (p : Path). kind_of (places u (parent_of p))) (top_here e.0) ∙ ap (λ (x : Places). kind_of (x (parent_of stage))) e.1 ∙ parent
          by (inr w) = ap (λ (p : Path). kind_of (places u p)) (above_here w) ∙ ap kind_of (b.inside w.above) ∙ kind_object now (s w.above) ∙ w.dir

      module _ (what : NewKind) (v : Files) (is : places v ≡ made now (stage ++ rest) (held_object what now) (places u)) where
        at_else : (q : Path) → same_path (stage ++ rest) q ≡ false → places v q ≡ cond (same_path (parent_of (stage ++ rest)) q) (option_map (modified now) (places u q)) (places u q)
        at_else q d = ap (λ (x : Places). x q) is ∙ ap (λ o. cond (same_path (parent_of (stage ++ rest)) q) (option_map (modified now) o) o) (put_at-else (stage ++ rest) q (Some (held_object what now)) (places u) d)

        made_inside : (r : Path) → (rest ≡ r) ⊎ (same_path rest r ≡ false) → places v (stage ++ r) ≡ option_map (object_of now) (after_piece (Make rest what) s r)
        made_inside r (inl e) = subst (λ (p : Path). places v (stage ++ p) ≡ option_map (object_of now) (after_piece (Make rest what) s p)) e
            (ap (λ (x : Places). x (stage ++ rest)) is ∙ made-here now (stage ++ rest) (places u) (not_empty rest) (held_object what now)
            ∙ ap (λ c. option_map (object_of now) (cond c (Some (object_state_of (held_object what 0))) (s rest))) (sym (same_path-refl rest)))
        made_inside r (inr d) =
            at_else (stage ++ r) (here_else r d)
            ∙ ap (λ o. cond (same_path (parent_of (stage ++ rest)) (stage ++ r)) (option_map (modified now) o) o) (b.inside r)
            ∙ settled now (same_path (parent_of (stage ++ rest)) (stage ++ r)) (s r)
            ∙ ap (λ c. option_map (object_of now) (cond c (Some (object_state_of (held_object what 0))) (s r))) (sym d)

        made_top : ((rest ≡ []) × (places u ≡ places t)) ⊎ IsWithin now stage s t u rest → is_some (after_piece (Make rest what) s []) ≡ true
        made_top (inl e) = ap (λ (p : Path). is_some (cond (same_path p []) (Some (object_state_of (held_object what 0))) (s []))) e.0
        made_top (inr w) = still (same_path rest []) w.top
          where
            still : (c : Bool) → is_some (s []) ≡ true → is_some (cond c (Some (object_state_of (held_object what 0))) (s [])) ≡ true
            still true h = refl
            still false h = h

        made_outside : ((rest ≡ []) × (places u ≡ places t)) ⊎ IsWithin now stage s t u rest → (q : Path) → is_prefix stage q ≡ false → places v q ≡ touched now stage (places t) q
        made_outside (inl e) q h =
            at_else q (here_outside q h) ∙ ap (λ (p : Path). cond (same_path (parent_of p) q) (option_map (modified now) (places u q)) (places u q)) (top_here e.0)
            ∙ ap (λ (x : Places). touched now stage x q) e.1
        made_outside (inr w) q h =
            let apart_q : same_path (parent_of (stage ++ rest)) q ≡ false =
            no_same (parent_of (stage ++ rest)) q (λ e. true_not_false (is_prefix stage q) (ap (is_prefix stage) (sym e ∙ above_here w) ∙ is_prefix-append stage w.above) h) in
            at_else q (here_outside q h) ∙ ap (λ c. cond c (option_map (modified now) (places u q)) (places u q)) apart_q ∙ w.outside q h

        pub made_built : IsBuilt now stage (after_piece (Make rest what) s) t v
        made_built = record { inside = λ r. made_inside r (path_cases rest r); outside = inr (made_top place_for, made_outside place_for) }

    -- ---- an object gets its metadata

    module _ (o : ObjectState) (there : s rest ≡ Some (plain o)) where
      pub stands_here : places u (stage ++ rest) ≡ Some (object_of now (plain o))
      stands_here = b.inside rest ∙ ap (option_map (object_of now)) there

      pub can_wear_here : (metadata : Metadata) → IsWhole o → metadata ≡ o.metadata → CanSetMetadata u (stage ++ rest) metadata
      can_wear_here metadata whole same = record {
        kind = o.body.kind;
        there = ap kind_of stands_here ∙ ap (λ (x : Body). Some x.kind) whole.body;
        metadata = subst (IsMetadata o.body.kind) (sym same) whole.metadata;
      }

      module _ (metadata : Metadata) (v : Files) (h : ChangedAt (with_metadata metadata) (stage ++ rest) now u v) where
        old_is : h.old ≡ object_of now (plain o)
        old_is = let both : Some h.old ≡ Some (object_of now (plain o)) = sym h.there ∙ stands_here in cc

        object_is : IsChanged (with_metadata metadata) now h.old h.object → h.object ≡ object_of now (record (plain o) { metadata = metadata })
        object_is (inl e) = e.1 ∙ sym e.0 ∙ ap (with_metadata metadata) old_is
        object_is (inr e) = e.1 ∙ ap (λ x. changed now (with_metadata metadata x)) old_is

        worn_inside : (r : Path) → (rest ≡ r) ⊎ (same_path rest r ≡ false) → places v (stage ++ r) ≡ option_map (object_of now) (after_piece (Give rest metadata) s r)
        worn_inside r (inl e) = subst (λ (p : Path). places v (stage ++ p) ≡ option_map (object_of now) (after_piece (Give rest metadata) s p)) e
            (ap (λ (x : Places). x (stage ++ rest)) h.left ∙ put_at-here (stage ++ rest) (Some h.object) (places u) ∙ ap Some (object_is h.is)
            ∙ sym (ap (λ v. option_map (object_of now) (option_map (λ (b : ObjectState). record b { metadata = metadata }) v)) there)
            ∙ ap (λ c. option_map (object_of now) (cond c (option_map (λ (b : ObjectState). record b { metadata = metadata }) (s rest)) (s rest))) (sym (same_path-refl rest)))
        worn_inside r (inr d) =
            ap (λ (x : Places). x (stage ++ r)) h.left ∙ put_at-else (stage ++ rest) (stage ++ r) (Some h.object) (places u) (here_else r d) ∙ b.inside r
            ∙ ap (λ c. option_map (object_of now) (cond c (option_map (λ (b : ObjectState). record b { metadata = metadata }) (s r)) (s r))) (sym d)

        worn_some : (c : Bool) (x : Option ObjectState) → is_some x ≡ true → is_some (cond c (option_map (λ (b : ObjectState). record b { metadata = metadata }) x) x) ≡ true
        worn_some c None e = let no : false ≡ true = e in cc
        worn_some true (Some x) e = refl
        worn_some false (Some x) e = refl

        pub worn_built : IsBuilt now stage (after_piece (Give rest metadata) s) t v
        worn_built = record { inside = λ r. worn_inside r (path_cases rest r); outside = by b.outside }
          where
            by : (((r : Path) → s r ≡ None) × (places u ≡ places t)) ⊎ ((is_some (s []) ≡ true) × ((q : Path) → is_prefix stage q ≡ false → places u q ≡ touched now stage (places t) q))
                → (((r : Path) → after_piece (Give rest metadata) s r ≡ None) × (places v ≡ places t)) ⊎ ((is_some (after_piece (Give rest metadata) s []) ≡ true) × ((q : Path) → is_prefix stage q ≡ false → places v q ≡ touched now stage (places t) q))
            by (inl e) = absurd (let no : None ≡ Some (plain o) = sym (e.0 rest) ∙ there in cc)
            by (inr e) = inr (
              worn_some (same_path rest []) (s []) e.0,
              λ q out. ap (λ (x : Places). x q) h.left ∙ put_at-else (stage ++ rest) q (Some h.object) (places u) (here_outside q out) ∙ e.1 q out,
            )

-- ---- steps

module _ (b : ObjectState) (whole : IsWhole b) where
  -- what is first made of it has all of its body
  body_is : (what : NewKind) → what_of b.body ≡ what → b.body ≡ (object_state_of (held_object what 0)).body
  body_is what e = sym whole.body ∙ ap (λ (w : NewKind). (object_state_of (held_object w 0)).body) e

  kind_is : (what : NewKind) → what_of b.body ≡ what → b.body.kind ≡ new_kind what
  kind_is what e = ap (λ (x : Body). x.kind) (body_is what e)

  makes : (path : Path) (what : NewKind) → what_of b.body ≡ what → GivesObjectState path b (make_step path what) × IsNeeded b (make_step path what)
  makes path new.Directory e = ((refl, kind_is new.Directory e), tt)
  makes path (new.File content) e = ((refl, kind_is (new.File content) e), tt)
  makes path (new.Link target) e = ((refl, (kind_is (new.Link target) e, ap (λ (x : Body). x.payload) (body_is (new.Link target) e))), tt)
  makes path new.Fifo e = ((refl, kind_is new.Fifo e), tt)
  makes path (new.Device block major minor) e = (
    (refl, (kind_is (new.Device block major minor) e, (ap (λ (x : Body). x.major) (body_is (new.Device block major minor) e), ap (λ (x : Body). x.minor) (body_is (new.Device block major minor) e)))),
    tt,
  )

  -- what begins it gives it a part of what it has
  pub made_gives : (path : Path) (step : Step) → BeginsNew path (what_of b.body) step → GivesObjectState path b step × IsNeeded b step
  made_gives path step (inl e) = subst (λ s. GivesObjectState path b s × IsNeeded b s) (sym e) (makes path (what_of b.body) refl)
  made_gives path step (inr (content, (e, is))) = subst (λ s. GivesObjectState path b s × IsNeeded b s) (sym e)
      ((refl, (kind_is (new.File content) is, ap (λ (x : Body). x.payload) (body_is (new.File content) is))), tt)

-- and so does its metadata, once it has all it holds
pub metadata_gives_object_state : (b : ObjectState) (path : Path) (now : ℕ) (u : Files) → places u path ≡ Some (object_of now (plain b)) → (step : Step) → GivesMetadata path b.metadata u step → GivesObjectState path b step × IsNeeded b step
metadata_gives_object_state b path now u there step (inl e) = subst (λ s. GivesObjectState path b s × IsNeeded b s) (sym e) ((refl, (refl, refl)), tt)
metadata_gives_object_state b path now u there step (inr (inl e)) = subst (λ s. GivesObjectState path b s × IsNeeded b s) (sym e) ((refl, refl), tt)
metadata_gives_object_state b path now u there step (inr (inr (inl e))) = subst (λ s. GivesObjectState path b s × IsNeeded b s) (sym e.0) ((refl, refl), e.1 (object_of now (plain b)) there)
metadata_gives_object_state b path now u there step (inr (inr (inr (inl e)))) = subst (λ s. GivesObjectState path b s × IsNeeded b s) (sym e.0) ((refl, refl), e.1 (object_of now (plain b)) there)
metadata_gives_object_state b path now u there step (inr (inr (inr (inr e)))) = subst (λ s. GivesObjectState path b s × IsNeeded b s) (sym e.0) ((refl, refl), e.1 (object_of now (plain b)) there)
