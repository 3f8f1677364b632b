-- Laws of copies: pieces of work that are done one after the other, and the copy that is renamed into place.
use Rattle.std.specs.Prelude.{◌≡◌, ◌≢◌, ℕ, ◌+◌, ◌-◌, ◌≤◌, Bool, true, false, cond, List, [], ◌∷◌, ◌++◌, length, filter, filter_map, Option, Some, None, is_some, option_map, Result, Ok}
use Rattle.std.proofs.Common.{refl, sym, ap, subst, ◌∙◌, inl, inr, ◌⊎◌, arith, zero, length-append}
use Rattle.std.proofs.lemmas.List.{append-nil}
use Rattle.std.specs.FinMap as fin
use Rattle.std.proofs.lemmas.Bool.{cases_Bool}
use Rattle.pv_walk.specs.declared.object_state.ObjectState.{ObjectState}
use Rattle.pv_walk.specs.declared.object_state.Metadata.{Metadata}
use Rattle.pv_walk.specs.SettingMetadata.{GivesMetadata}
use Rattle.pv_walk.specs.Edits.{SameOutside, count_at}
use Rattle.pv_walk.specs.Nodes.{object_state_of, object_states_of}
use Rattle.pv_walk.proofs.MetadataLaws.{outside_setting_metadata}
use Rattle.pv_walk.proofs.EditLaws.{path_cases, object_states-stamped, object_states-touched, staging_outside}
use Rattle.pv_walk.proofs.OperationLaws.{object_states_of-same}
use Rattle.pv_path.specs.Paths.{Path, is_prefix, same_path, parent_of, rest_under, has_staging, staging_of}
use Rattle.pv_path.proofs.PathLaws.{same_path-refl, rest_under-Some, prefix_rest, is_some-rest_under, parent_of-staging_of, has_staging-staging_of}
use Rattle.pv_steps.specs.declared.node.Kind.TheVariants.{Directory}
use Rattle.pv_steps.specs.declared.object.Object.{Object}
use Rattle.pv_steps.specs.declared.step.Step.{Step}
use Rattle.pv_steps.specs.declared.tree.Tree.{Ghosts}
use Rattle.pv_steps.specs.declared.tree.TreeFault.{TreeFault}
use Rattle.pv_steps.specs.Acting.{Acted}
use Rattle.pv_steps.specs.Objects.{object_state, changed, modified}
use Rattle.pv_steps.specs.Same.{object_states}
use Rattle.pv_steps.specs.Steps.{touched, moved, moved_at, carried}
use Rattle.pv_steps.specs.Trees.{Files, Places, places, kind_of, IsKindIn, IsAbsentIn, IsTree}
use Rattle.pv_steps.proofs.ActingLaws.{Moves, well, acted_then, acted_weaken, acted_within, acted_end}
use Rattle.pv_steps.proofs.StepLaws.{is_some-touched}
use Rattle.pv_walk.specs.declared.listing.Piece.{Piece}
use Rattle.pv_walk.specs.declared.listing.Piece.TheVariants.{Make, Give}
use Rattle.pv_walk.specs.declared.new_file.NewKind.{NewKind}
use Rattle.pv_walk.specs.Copying.{copied_count, object_of, standing, with_subtree, GivesPart, IsStagingOf, IsCopyStep, Subtree}
use Rattle.pv_walk.specs.Listing.{times}
use Rattle.pv_walk.specs.Pieces.{CanDo, IsDone, GivesPiece, PieceWay, plain, piece_cost, cost_of, after_piece, built, IsDoable, AreDoable, made_of, IsFilledBelow, IsPlan}
use Rattle.pv_walk.specs.Replacing.{Replacing}
use Rattle.pv_walk.specs.Removal.{Publishing}
use Rattle.pv_walk.specs.Making.{held_object, BeginsNew}
use Rattle.pv_walk.specs.Stages.{IsStage, IsAtStage, AreFilledFirst, Staging, made_directory, standing_at}
use Rattle.pv_walk.specs.Staging.{HasTarget, IsPublishing}
use Rattle.pv_walk.proofs.BuildingLaws.{IsBuilt, kind_object, built_start, built_outside, object_states_built, built_end, not_empty, with_inside, with_outside, here_outside, here_else, room, made_built, stands_here, can_wear_here, worn_built, made_gives, metadata_gives_object_state}
use Rattle.pv_walk.proofs.CountLaws.{count_same, times-filter, times-keys, length-times, same_or_not}
use Rattle.pv_walk.proofs.CopyListing.{rests_of, cost-push}
use Rattle.pv_walk.proofs.ListingLaws.{cond-one, cond-zero}
use Rattle.pv_walk.proofs.PlanLaws.{built-append, doable-last}
use Rattle.pv_walk.proofs.PublishLaws.{staging_nonempty, staged_outside, path_outside}
use Rattle.pv_walk.proofs.PuttingLaws.{none_under}
use Rattle.pv_walk.proofs.RemovalLaws.{no_same}
use Rattle.pv_walk.proofs.ReplacingLaws.{kind_same, yields_same}
use Rattle.pv_walk.proofs.StageLaws.{begun_start, begun_stage, begun_directory, held_directory, setting_metadata_stage, setting_metadata_kept}
use Rattle.pv_walk.proofs.StagedLaws.{at_same}
use Rattle.pv_path.proofs.Tests.{true_not_false}

-- what is filled first is so when one place has changed: a directory there is as its Make step leaves it or is filled, and
-- it has what it is to have, if it had it before
filled_where : (s old now : Subtree) (rest : Path) → ((r : Path) → same_path rest r ≡ false → now r ≡ old r)
    → ((found : ObjectState) → now rest ≡ Some found → found.body.kind ≡ Directory → (found ≡ made_directory) ⊎ IsFilledBelow s old rest)
    → (old rest ≡ s rest → now rest ≡ s rest) → AreFilledFirst s old → AreFilledFirst s now
filled_where s old now rest else_same here kept h r found is dir = elim (path_cases rest r) [
  | inl e ↦ subst (λ (p : Path). (found ≡ made_directory) ⊎ IsFilledBelow s now p) e (at_place (here found (ap now e ∙ is) dir))
  | inr d ↦ at_other (h r found (sym (else_same r d) ∙ is) dir)
]
  where
    at_place : (found ≡ made_directory) ⊎ IsFilledBelow s old rest → (found ≡ made_directory) ⊎ IsFilledBelow s now rest
    at_place (inl plain) = inl plain
    at_place (inr full) = inr (λ n x. else_same (rest ++ n ∷ x) (no_same rest (rest ++ n ∷ x) (λ e. omega (arith, ap length {y = rest ++ n ∷ x} e, length-append rest (n ∷ x)))) ∙ full n x)

    one : (q : Path) → old q ≡ s q → (rest ≡ q) ⊎ (same_path rest q ≡ false) → now q ≡ s q
    one q same (inl e) = subst (λ (p : Path). now p ≡ s p) e (kept (ap old e ∙ same ∙ sym (ap s e)))
    one q same (inr d) = else_same q d ∙ same

    at_other : (found ≡ made_directory) ⊎ IsFilledBelow s old r → (found ≡ made_directory) ⊎ IsFilledBelow s now r
    at_other (inl plain) = inl plain
    at_other (inr full) = inr (λ n x. one (r ++ n ∷ x) (full n x) (path_cases rest (r ++ n ∷ x)))

-- nothing of a piece is done
pub way_start : (stage : Path) (p : Piece) (t : Files) → CanDo stage p t → PieceWay stage p t t
way_start stage (Make rest what) t can = begun_start (stage ++ rest) can.0 0 t can.1.0 what
way_start stage (Give rest metadata) t can = (zero, λ q. sym (object_states-stamped (stage ++ rest) (λ o. o) (λ o. refl) (places t) q))

-- some pieces of a list are done, and these are left
pub record Doing (now : ℕ) (stage : Path) (t : Files) (all left : List Piece) (u : Files) : Type 0 where
  pub objects : Path → Option ObjectState
  pub stands : IsBuilt now stage objects t u
  pub stages : (r : Path) → IsAtStage (made_of all r) (objects r)
  pub filled : AreFilledFirst (made_of all) objects
  pub doable : AreDoable (made_of all) objects left
  pub whole : built left objects ≡ made_of all

module _ (now : ℕ) (stage : Path) (nonempty : stage ≢ []) (t : Files) (parent : IsKindIn Directory (places t) (parent_of stage)) (all : List Piece) where
  pub doing_start : ((r : Path) → IsAbsentIn (places t) (stage ++ r)) → IsPlan all → Doing now stage t all all t
  doing_start free plan = record { objects = λ q. None; stands = built_start now stage nonempty t parent free; stages = λ r. IsAtStage.none refl; filled = λ r found is dir. absurd (let no : None ≡ Some found = is in cc); doable = plan; whole = refl }

  -- while a piece is done nothing has changed elsewhere, timestamps aside, and what stands is at its stage: but at its place, where a
  -- stage stands, all is as it was
  -- a directory at its place has no more than its Make step gave it, or has all below it; and the object there is not the
  -- object that is to stand there unless it was so before
  record IsPieceFilled (objects : Subtree) (rest : Path) (w : Files) : Type 0 where
    here : (found : ObjectState) → standing_at stage w rest ≡ Some found → found.body.kind ≡ Directory → (found ≡ made_directory) ⊎ IsFilledBelow (made_of all) objects rest
    kept : objects rest ≡ made_of all rest → standing_at stage w rest ≡ made_of all rest

  way_staged : (left : List Piece) (u : Files) → (e : Doing now stage t all left u) → (rest : Path) (w : Files) → SameOutside (same_path (stage ++ rest)) u w → IsAtStage (made_of all rest) (object_states_of (places w) (stage ++ rest))
      → IsPieceFilled e.objects rest w → Staging stage (made_of all) t w
  way_staged left u e rest w h here full = record {
    outside = λ q out. h q (here_outside now stage nonempty t parent e.objects u e.stands rest q out) ∙ built_outside now stage nonempty t parent e.objects u e.stands q out;
    stages = record {
      each = λ r. elim (path_cases rest r) [
        | inl same ↦ subst (λ (p : Path). IsAtStage (made_of all p) (object_states_of (places w) (stage ++ p))) same here
        | inr d ↦ at_same (e.stages r) (object_states_of (places w) (stage ++ r)) (else_same r d)
      ];
      filled = filled_where (made_of all) e.objects (standing_at stage w) rest else_same full.here full.kept e.filled;
    };
  }
    where
      else_same : (r : Path) → same_path rest r ≡ false → standing_at stage w r ≡ e.objects r
      else_same r d =
          object_states_of-same (places w) (places u) (stage ++ r) (h (stage ++ r) (here_else now stage nonempty t parent e.objects u e.stands rest r d)) ∙ object_states_built now stage e.objects t u e.stands r

  -- the last of those that are left is done next
  module _ (left : List Piece) (u : Files) where
    can_by : (p : Piece) (s : Path → Option ObjectState) → IsBuilt now stage s t u → IsDoable (made_of all) s p → CanDo stage p u
    can_by (Make rest what) s b (o, (there, (whole, (same, (none, place))))) =
        (not_empty now stage nonempty t parent rest, (room now stage nonempty t parent s u b rest none place, subst HasTarget (sym same) whole.target))
    can_by (Give rest metadata) s b (o, (there, (whole, (same, (here, full))))) = can_wear_here now stage nonempty t parent s u b rest o here metadata whole same

    pub doing_can : (p : Piece) → Doing now stage t all (left ++ p ∷ []) u → CanDo stage p u
    doing_can p e = can_by p e.objects e.stands (doable-last (made_of all) e.objects left p e.doable).0

    stands_by : (p : Piece) (s : Path → Option ObjectState) (v : Files) → IsBuilt now stage s t u → IsDoable (made_of all) s p → IsDone now stage p u v → IsBuilt now stage (after_piece p s) t v
    stands_by (Make rest what) s v b (o, (there, (whole, (same, (none, place))))) h = made_built now stage nonempty t parent s u b rest none place what v h
    stands_by (Give rest metadata) s v b (o, (there, (whole, (same, (here, full))))) h = worn_built now stage nonempty t parent s u b rest o here metadata v h

    way_by : (p : Piece) → (e : Doing now stage t all (left ++ p ∷ []) u) → IsBuilt now stage e.objects t u → IsDoable (made_of all) e.objects p → (w : Files) → PieceWay stage p u w → Staging stage (made_of all) t w
    way_by (Make rest what) e b (o, (there, (whole, (same, (none, place))))) w h =
        way_staged (left ++ Make rest what ∷ []) u e rest w h.outside
        (subst (λ (v : Option ObjectState). IsAtStage v (object_states_of (places w) (stage ++ rest))) (sym there) (begun_stage (stage ++ rest) what o u w same h))
        (record {
          here = λ found is dir. inl (begun_directory (stage ++ rest) what u w found h is dir);
          kept = λ before. absurd (let no : None ≡ Some o = sym none ∙ before ∙ there in cc);
        })
    way_by (Give rest metadata) e b (o, (there, (whole, (same, (here, full))))) w h =
        way_staged (left ++ Give rest metadata ∷ []) u e rest w (outside_setting_metadata (stage ++ rest) metadata u w h)
        (subst (λ (v : Option ObjectState). IsAtStage v (object_states_of (places w) (stage ++ rest))) (sym there)
        (setting_metadata_stage (stage ++ rest) o metadata (object_of now (plain o)) u w same (stands_here now stage nonempty t parent e.objects u b rest o here) refl h))
        (record {
          here = λ found is dir. inr full;
          kept = λ before. let whole_is : plain o ≡ o = (let both : Some (plain o) ≡ Some o = sym here ∙ before ∙ there in cc) in
              setting_metadata_kept (stage ++ rest) o metadata (object_of now (plain o)) u w same (stands_here now stage nonempty t parent e.objects u b rest o here) refl whole_is h ∙ sym there;
        })

    pub doing_way : (p : Piece) → Doing now stage t all (left ++ p ∷ []) u → (w : Files) → PieceWay stage p u w → Staging stage (made_of all) t w
    doing_way p e w h = way_by p e e.stands (doable-last (made_of all) e.objects left p e.doable).0 w h

    -- what a piece leaves is at its stage
    stage_by : (p : Piece) (s : Path → Option ObjectState) → ((r : Path) → IsAtStage (made_of all r) (s r)) → IsDoable (made_of all) s p → (r : Path) → IsAtStage (made_of all r) (after_piece p s r)
    stage_by (Make rest what) s h (o, (there, (whole, (same, (none, place))))) r = elim (path_cases rest r) [
      | inl e ↦ subst (λ (q : Path). IsAtStage (made_of all q) (after_piece (Make rest what) s q)) e
          (IsAtStage.stage o (object_state_of (held_object what 0)) there (ap (λ c. cond c (Some (object_state_of (held_object what 0))) (s rest)) (same_path-refl rest))
          (IsStage.begun (inr (ap (λ (w : NewKind). object_state_of (held_object w 0)) same))))
      | inr d ↦ at_same (h r) (after_piece (Make rest what) s r) (ap (λ c. cond c (Some (object_state_of (held_object what 0))) (s r)) d)
    ]
    stage_by (Give rest metadata) s h (o, (there, (whole, (same, (here, full))))) r = elim (path_cases rest r) [
      | inl e ↦ subst (λ (q : Path). IsAtStage (made_of all q) (after_piece (Give rest metadata) s q)) e
          (IsAtStage.stage o (record (plain o) { metadata = metadata }) there
          (ap (λ c. cond c (option_map (λ (b : ObjectState). record b { metadata = metadata }) (s rest)) (s rest)) (same_path-refl rest) ∙ ap (option_map (λ (b : ObjectState). record b { metadata = metadata })) here)
          (IsStage.setting_metadata 5 (ap (λ (d : Metadata). record (plain o) { metadata = d }) same)))
      | inr d ↦ at_same (h r) (after_piece (Give rest metadata) s r) (ap (λ c. cond c (option_map (λ (b : ObjectState). record b { metadata = metadata }) (s r)) (s r)) d)
    ]

    -- and filled first
    filled_by : (p : Piece) (s : Path → Option ObjectState) → AreFilledFirst (made_of all) s → IsDoable (made_of all) s p → AreFilledFirst (made_of all) (after_piece p s)
    filled_by (Make rest what) s h (o, (there, (whole, (same, (none, place))))) = filled_where (made_of all) s (after_piece (Make rest what) s) rest
        (λ r d. ap (λ c. cond c (Some (object_state_of (held_object what 0))) (s r)) d)
        (λ found is dir. inl (let one : object_state_of (held_object what 0) ≡ found = (let both : Some (object_state_of (held_object what 0)) ≡ Some found = sym (ap (λ c. cond c (Some (object_state_of (held_object what 0))) (s rest)) (same_path-refl rest)) ∙ is in cc) in
        sym one ∙ held_directory what (ap (λ (b : ObjectState). b.body.kind) one ∙ dir)))
        (λ before. absurd (let no : None ≡ Some o = sym none ∙ before ∙ there in cc)) h
    filled_by (Give rest metadata) s h (o, (there, (whole, (same, (here, full))))) = filled_where (made_of all) s (after_piece (Give rest metadata) s) rest
        (λ r d. ap (λ c. cond c (option_map (λ (b : ObjectState). record b { metadata = metadata }) (s r)) (s r)) d)
        (λ found is dir. inr full)
        (λ before. let whole_is : plain o ≡ o = (let both : Some (plain o) ≡ Some o = sym here ∙ before ∙ there in cc) in
        ap (λ c. cond c (option_map (λ (b : ObjectState). record b { metadata = metadata }) (s rest)) (s rest)) (same_path-refl rest)
        ∙ ap (option_map (λ (b : ObjectState). record b { metadata = metadata })) (before ∙ there) ∙ ap (λ (d : Metadata). Some (record o { metadata = d })) same ∙ sym there) h

    pub doing_next : (p : Piece) (v : Files) → Doing now stage t all (left ++ p ∷ []) u → IsDone now stage p u v → Doing now stage t all left v
    doing_next p v e h =
        let parts = doable-last (made_of all) e.objects left p e.doable in
        record { objects = after_piece p e.objects; stands = stands_by p e.objects v e.stands parts.0 h; stages = stage_by p e.objects e.stages parts.0; filled = filled_by p e.objects e.filled parts.0; doable = parts.1; whole = sym (built-append left (p ∷ []) e.objects) ∙ e.whole }

    gives_by : (p : Piece) (s : Path → Option ObjectState) (step : Step) → IsBuilt now stage s t u → IsDoable (made_of all) s p → GivesPiece stage p u step → GivesPart stage (made_of all) step
    gives_by (Make rest what) s step b (o, (there, (whole, (same, e)))) h =
        let gives = made_gives o whole (stage ++ rest) step (subst (λ (w : NewKind). BeginsNew (stage ++ rest) w step) same h) in
        record { rest = rest; object = o; is = there; gives = gives.0; needed = gives.1 }
    gives_by (Give rest metadata) s step b (o, (there, (whole, (same, (here, full))))) h =
        let gives =
        metadata_gives_object_state o (stage ++ rest) now u (stands_here now stage nonempty t parent s u b rest o here) step (subst (λ (d : Metadata). GivesMetadata (stage ++ rest) d u step) same h) in
        record { rest = rest; object = o; is = there; gives = gives.0; needed = gives.1 }

    pub doing_gives : (p : Piece) → Doing now stage t all (left ++ p ∷ []) u → (step : Step) → GivesPiece stage p u step → GivesPart stage (made_of all) step
    doing_gives p e step h = gives_by p e.objects step e.stands (doable-last (made_of all) e.objects left p e.doable).0 h

  -- when none is left, all stands
  pub doing_end : (u : Files) → Doing now stage t all [] u → is_some (made_of all []) ≡ true → places u ≡ with_subtree now stage (made_of all) (places t)
  doing_end u e top =
      built_end now stage nonempty t parent e.objects u e.stands (ap (λ (s : Path → Option ObjectState). is_some (s [])) e.whole ∙ top)
      ∙ ap (λ (s : Path → Option ObjectState). with_subtree now stage s (places t)) e.whole

-- one piece more is done
pub one_more : {S A : Type 0} (tree : Ghosts S) → Moves tree → (stage : Path) → stage ≢ [] → (all left : List Piece) (p : Piece) {m now : ℕ} {a b c : S} {r : Result A TreeFault}
    → IsKindIn Directory (places (tree.state a)) (parent_of stage) → Doing now stage (tree.state a) all (left ++ p ∷ []) (tree.state b) → (n : ℕ) → m + piece_cost p ≤ n
    → Acted tree (Staging stage (made_of all) (tree.state a)) (GivesPart stage (made_of all)) m now a b well
    → Acted tree (PieceWay stage p (tree.state b)) (GivesPiece stage p (tree.state b)) (piece_cost p) now b c r
    → Acted tree (Staging stage (made_of all) (tree.state a)) (GivesPart stage (made_of all)) n now a c r
one_more tree moves stage nonempty all left p {m = m} {now = now} {a = a} {b = b} parent doing n le before last =
    acted_within tree (m + piece_cost p) n le
    (acted_then tree moves (Staging stage (made_of all) (tree.state a)) (GivesPart stage (made_of all)) before
    (acted_weaken tree (PieceWay stage p (tree.state b)) (Staging stage (made_of all) (tree.state a)) (GivesPiece stage p (tree.state b)) (GivesPart stage (made_of all)) (piece_cost p) (piece_cost p)
    (doing_way now stage nonempty (tree.state a) parent all left (tree.state b) p doing)
    (doing_gives now stage nonempty (tree.state a) parent all left (tree.state b) p doing)
    (omega arith) last))

-- so the next piece is done
pub next_done : {S : Type 0} (tree : Ghosts S) → Moves tree → (now : ℕ) (stage : Path) → stage ≢ [] → (all left front : List Piece) (p : Piece) → left ≡ front ++ p ∷ [] → (a b c : S)
    → IsKindIn Directory (places (tree.state a)) (parent_of stage) → Doing now stage (tree.state a) all left (tree.state b) → cost_of left ≤ cost_of all
    → Acted tree (Staging stage (made_of all) (tree.state a)) (GivesPart stage (made_of all)) (cost_of all - cost_of left) now a b well
    → IsDone now stage p (tree.state b) (tree.state c)
    → Acted tree (PieceWay stage p (tree.state b)) (GivesPiece stage p (tree.state b)) (piece_cost p) now b c well
    → Doing now stage (tree.state a) all front (tree.state c) × ((cost_of front ≤ cost_of all) × Acted tree (Staging stage (made_of all) (tree.state a)) (GivesPart stage (made_of all)) (cost_of all - cost_of front) now a c well)
next_done tree moves now stage nonempty all left front p is a b c parent doing room before done last =
    let here : Doing now stage (tree.state a) all (front ++ p ∷ []) (tree.state b) = subst (λ (ps : List Piece). Doing now stage (tree.state a) all ps (tree.state b)) is doing in
    let one = cost-push front p is in (
      doing_next now stage nonempty (tree.state a) parent all front (tree.state b) p (tree.state c) here done,
      (omega (arith, room, one), one_more tree moves stage nonempty all front p parent here (cost_of all - cost_of front) (omega (arith, room, one)) before last),
    )

-- ---- the copy is renamed into place

-- ---- timestamps aside

-- a subtree stands the same, whatever the moment at which it was put
module _ (path : Path) (s : Subtree) (t : Places) where
  object_state_standing : (now later : ℕ) (old : Option Object) (o : Option Path) → option_map object_state (standing now s old o) ≡ option_map object_state (standing later s old o)
  object_state_standing now later old None = refl
  object_state_standing now later old (Some rest) = by (s rest)
    where
      by : (v : Option ObjectState) → option_map object_state (option_map (object_of now) v) ≡ option_map object_state (option_map (object_of later) v)
      by None = refl
      by (Some b) = refl

  pub object_states_with : (now later : ℕ) (q : Path) → object_states (with_subtree now path s t) q ≡ object_states (with_subtree later path s t) q
  object_states_with now later q =
      object_states-touched now path (λ q. standing now s (t q) (rest_under path q)) q ∙ object_state_standing now later (t q) (rest_under path q)
      ∙ sym (object_states-touched later path (λ q. standing later s (t q) (rest_under path q)) q)

module _ (now : ℕ) (path : Path) (nonempty : path ≢ []) (s : Path → Option ObjectState) (t : Files) (tree : IsTree t) (free : IsAbsentIn (places t) (staging_of path)) where
  abbrev staged : Places
  staged = with_subtree now (staging_of path) s (places t)

  carried_is : (rest : Path) → carried now (staging_of path) (with_subtree now (staging_of path) s (places t)) rest ≡ option_map (object_of now) (s rest)
  carried_is [] =
      ap (option_map (changed now)) (ap (with_subtree now (staging_of path) s (places t)) (sym (append-nil (staging_of path))) ∙ with_inside now (staging_of path) (staging_nonempty path nonempty) t s [])
      ∙ again (s [])
    where
      again : (o : Option ObjectState) → option_map (changed now) (option_map (object_of now) o) ≡ option_map (object_of now) o
      again None = refl
      again (Some b) = refl
  carried_is (n ∷ rest) = with_inside now (staging_of path) (staging_nonempty path nonempty) t s (n ∷ rest)

  same_dir : (q : Path) → same_path (parent_of (staging_of path)) q ≡ same_path (parent_of path) q
  same_dir q = ap (λ p. same_path p q) (parent_of-staging_of path)

  thrice : (c d : Bool) (o : Option Object) → c ≡ d
      → cond c (option_map (modified now) (cond d (option_map (modified now) (cond c (option_map (modified now) o) o)) (cond c (option_map (modified now) o) o))) (cond d (option_map (modified now) (cond c (option_map (modified now) o) o)) (cond c (option_map (modified now) o) o))
      ≡ cond d (option_map (modified now) o) o
  thrice true true None e = refl
  thrice true true (Some o) e = refl
  thrice true false o e = cc
  thrice false true o e = cc
  thrice false false o e = refl

  touched_of : (x y : Places) (p q : Path) → x q ≡ y q → touched now p x q ≡ touched now p y q
  touched_of x y p q e = ap (λ v. cond (same_path (parent_of p) q) (option_map (modified now) v) v) e

  outside_is : (q : Path) → is_prefix path q ≡ false → (is_prefix (staging_of path) q ≡ true) ⊎ (is_prefix (staging_of path) q ≡ false)
      → cond (is_prefix (staging_of path) q) None (touched now (staging_of path) (touched now path (with_subtree now (staging_of path) s (places t))) q) ≡ touched now path (places t) q
  outside_is q h (inl e) =
      ap (λ c. cond c None (touched now (staging_of path) (touched now path (with_subtree now (staging_of path) s (places t))) q)) e
      ∙ sym (ap (λ v. cond (same_path (parent_of path) q) (option_map (modified now) v) v) (none_under (places t) tree (staging_of path) q free e) ∙ none (same_path (parent_of path) q))
    where
      none : (c : Bool) → cond c (option_map (modified now) None) None ≡ None
      none true = refl
      none false = refl
  outside_is q h (inr e) =
      ap (λ c. cond c None (touched now (staging_of path) (touched now path (with_subtree now (staging_of path) s (places t))) q)) e
      ∙ touched_of (touched now path (with_subtree now (staging_of path) s (places t))) (touched now path (touched now (staging_of path) (places t))) (staging_of path) q
      (touched_of (with_subtree now (staging_of path) s (places t)) (touched now (staging_of path) (places t)) path q (with_outside now (staging_of path) (staging_nonempty path nonempty) t s q e))
      ∙ thrice (same_path (parent_of (staging_of path)) q) (same_path (parent_of path) q) (places t q) (same_dir q)

  pub copy_moved : moved now (staging_of path) path (with_subtree now (staging_of path) s (places t)) ≡ with_subtree now path s (places t)
  copy_moved = λ i q. at q i
    where
      at : (q : Path) → moved now (staging_of path) path (with_subtree now (staging_of path) s (places t)) q ≡ with_subtree now path s (places t) q
      at q = by (rest_under path q) refl
        where
          by : (o : Option Path) → rest_under path q ≡ o → moved now (staging_of path) path (with_subtree now (staging_of path) s (places t)) q ≡ with_subtree now path s (places t) q
          by (Some rest) e =
              ap (moved_at now (staging_of path) path (with_subtree now (staging_of path) s (places t)) q) e ∙ carried_is rest
              ∙ sym (ap (with_subtree now path s (places t)) (rest_under-Some path q rest e) ∙ with_inside now path nonempty t s rest)
          by None e =
              let outside : is_prefix path q ≡ false = sym (is_some-rest_under path q) ∙ ap is_some e in
              ap (moved_at now (staging_of path) path (with_subtree now (staging_of path) s (places t)) q) e
              ∙ outside_is q outside (cases_Bool (is_prefix (staging_of path) q)) ∙ sym (with_outside now path nonempty t s q outside)

  pub copy_staged : is_some (s []) ≡ true → is_some (with_subtree now (staging_of path) s (places t) (staging_of path)) ≡ true
  copy_staged top =
      ap is_some (ap (with_subtree now (staging_of path) s (places t)) (sym (append-nil (staging_of path))) ∙ with_inside now (staging_of path) (staging_nonempty path nonempty) t s [])
      ∙ still (s []) top
    where
      still : (o : Option ObjectState) → is_some o ≡ true → is_some (option_map (object_of now) o) ≡ true
      still None h = h
      still (Some b) h = refl

  -- no more has to make way than stood at and below the path before
  pub copy_count : (u : Files) → places u ≡ with_subtree now (staging_of path) s (places t) → count_at u path ≤ count_at t path
  copy_count u is = count_same path t u present
    where
      out : (q : Path) → is_prefix path q ≡ true → is_prefix (staging_of path) q ≡ false
      out q h = elim (cases_Bool (is_prefix (staging_of path) q)) [
        | inl e ↦ absurd (stage_apart q h e)
        | inr e ↦ e
      ]
        where
          stage_apart : (q : Path) → is_prefix path q ≡ true → is_prefix (staging_of path) q ≡ true → ⊥
          stage_apart q h e = let there = rest_under-Some (staging_of path) q (rest_of e).0 (rest_of e).1 in true_not_false (is_prefix path (staging_of path ++ (rest_of e).0)) (ap (is_prefix path) (sym there) ∙ h) (staged_outside path nonempty (rest_of e).0)
            where
              rest_of : is_prefix (staging_of path) q ≡ true → (r : Path) × (rest_under (staging_of path) q ≡ Some r)
              rest_of = prefix_rest (staging_of path) q

      present : (q : Path) → is_prefix path q ≡ true → is_some (places u q) ≡ is_some (places t q)
      present q h = ap (λ (x : Places). is_some (x q)) is ∙ ap is_some (with_outside now (staging_of path) (staging_nonempty path nonempty) t s q (out q h)) ∙ is_some-touched now (staging_of path) (places t) q

  -- ---- on the way

  -- while the copy is made under its staging name
  pub copy_before : (u : Files) → SameOutside (is_prefix (staging_of path)) t u → Replacing path s t u
  copy_before u h = Replacing.before (λ q plain. sym (h q (staging_outside (staging_of path) (has_staging-staging_of path nonempty) q plain)))

  -- while the object at the path makes way, or the copy comes there
  pub copy_published : (u : Files) → places u ≡ with_subtree now (staging_of path) s (places t) → SameOutside (is_prefix (staging_of path)) t u → (w : Files) → Publishing now path u w → Replacing path s t w
  copy_published u is before w (inl c) = Replacing.making_way (record {
    staged = λ rest. object_states_of-same (places w) (places u) (staging_of path ++ rest) (c.pruned.outside (staging_of path ++ rest) (staged_outside path nonempty rest)) ∙ staged_object_state rest;
    stays = λ both.
        c.stays (ap kind_of (ap (places u) (sym (append-nil (staging_of path))) ∙ ap (λ (x : Places). x (staging_of path ++ [])) is ∙ with_inside now (staging_of path) (staging_nonempty path nonempty) t s []) ∙ kind_object now (s []) ∙ both.top)
        (kind_same (places u path) (places t path) here_kept ∙ both.there)
        ∙ here_kept;
    needed = λ y q plain. sym (c.needed (yields_same (with_subtree 0 (staging_of path) s (places t)) (places u) staged_same (staging_of path) path y) q ∙ kept q plain);
    parts = λ q plain. elim (cases_Bool (is_prefix path q)) [
      | inl e ↦ elim (c.pruned.within q e) [
        | inl gone ↦ inr (e, gone)
        | inr same ↦ inl (same ∙ kept q plain)
      ]
      | inr e ↦ inl (c.pruned.outside q e ∙ kept q plain)
    ];
  })
    where
      here_kept : object_states (places u) path ≡ object_states (places t) path
      here_kept = before path (path_outside path nonempty)

      kept : (q : Path) → has_staging q ≡ false → object_states (places u) q ≡ object_states (places t) q
      kept q plain = before q (staging_outside (staging_of path) (has_staging-staging_of path nonempty) q plain)

      again : (o : Option ObjectState) → option_map object_state_of (option_map (object_of now) o) ≡ o
      again None = refl
      again (Some b) = refl

      staged_object_state : (rest : Path) → object_states_of (places u) (staging_of path ++ rest) ≡ s rest
      staged_object_state rest =
          ap (λ (x : Places). object_states_of x (staging_of path ++ rest)) is ∙ ap (option_map object_state_of) (with_inside now (staging_of path) (staging_nonempty path nonempty) t s rest) ∙ again (s rest)

      staged_same : (q : Path) → object_states (with_subtree 0 (staging_of path) s (places t)) q ≡ object_states (places u) q
      staged_same q = object_states_with (staging_of path) s (places t) 0 now q ∙ ap (λ (x : Places). object_states x q) (sym is)
  copy_published u is before w (inr e) = Replacing.come (λ q plain. e q ∙ ap (λ (x : Places). object_states x q) (ap (moved now (staging_of path) path) is ∙ copy_moved) ∙ object_states_with path s (places t) now 0 q)

-- a copy of what is there has an object
pub copied_some : (s : Path → Option ObjectState) (source : Path) (t : Files) → is_some (s []) ≡ true → is_some (places t source) ≡ true → 1 ≤ copied_count s source t
copied_some s source t top there =
    length-times ([] ∷ []) (filter (λ rest. is_some (s rest)) (filter_map (rest_under source) (fin.keys t)))
    (λ q. by q (same_or_not [] q))
  where
    count : times [] (filter (λ rest. is_some (s rest)) (filter_map (rest_under source) (fin.keys t))) ≡ 1
    count =
        times-filter (λ rest. is_some (s rest)) [] (filter_map (rest_under source) (fin.keys t))
        ∙ ap (λ c. cond c (times [] (filter_map (rest_under source) (fin.keys t))) 0) top
        ∙ rests_of source [] (fin.keys t) ∙ times-keys t (source ++ []) ∙ cond-one (is_some (places t (source ++ []))) (ap (λ (p : Path). is_some (places t p)) (append-nil source) ∙ there)

    by : (q : Path) → (([] ≡ q) × (same_path [] q ≡ true)) ⊎ (same_path [] q ≡ false) → times q ([] ∷ []) ≤ times q (filter (λ rest. is_some (s rest)) (filter_map (rest_under source) (fin.keys t)))
    by q (inl e) = subst (λ (p : Path). times p ([] ∷ []) ≤ times p (filter (λ rest. is_some (s rest)) (filter_map (rest_under source) (fin.keys t)))) e.0 (omega (arith, count))
    by q (inr d) = let none = cond-zero (same_path [] q) d in omega (arith, none)

-- a subtree that is staged and is renamed into place
module _ {S : Type 0} (tree : Ghosts S) (now : ℕ) (path : Path) (nonempty : path ≢ []) (s : Path → Option ObjectState) (a b : S) (is_tree : IsTree (tree.state a)) (free : IsAbsentIn (places (tree.state a)) (staging_of path)) where
  pub subtree_staging : {A : Type 0} {r : Result A TreeFault} {m : ℕ} (most : ℕ) → m ≤ most → Acted tree (Staging (staging_of path) s (tree.state a)) (IsStagingOf path s) m now a b r
      → Acted tree (Replacing path s (tree.state a)) (IsCopyStep path s) most now a b r
  subtree_staging {m = m} most le before =
      acted_weaken tree (Staging (staging_of path) s (tree.state a)) (Replacing path s (tree.state a)) (IsStagingOf path s) (IsCopyStep path s) m most
      (λ u h. copy_before now path nonempty s (tree.state a) is_tree free u h.outside) (λ step g. inl g) le before

  module _ (is : places (tree.state b) ≡ with_subtree now (staging_of path) s (places (tree.state a))) where
    pub subtree_count : count_at (tree.state b) path ≤ count_at (tree.state a) path
    subtree_count = copy_count now path nonempty s (tree.state a) is_tree free (tree.state b) is

    pub subtree_acted : {A B : Type 0} {c : S} {x : A} {r : Result B TreeFault} {m : ℕ} → Moves tree
        → Acted tree (Staging (staging_of path) s (tree.state a)) (IsStagingOf path s) m now a b (Ok x)
        → Acted tree (Publishing now path (tree.state b)) (IsPublishing path) (1 + count_at (tree.state b) path) now b c r
        → Acted tree (Replacing path s (tree.state a)) (IsCopyStep path s) (m + (1 + count_at (tree.state a) path)) now a c r
    subtree_acted {m = m} moves before last =
        acted_within tree (m + (1 + count_at (tree.state b) path)) (m + (1 + count_at (tree.state a) path)) (omega (arith, subtree_count))
        (acted_then tree moves (Replacing path s (tree.state a)) (IsCopyStep path s)
        (subtree_staging m (omega arith) before)
        (acted_weaken tree (Publishing now path (tree.state b)) (Replacing path s (tree.state a)) (IsPublishing path) (IsCopyStep path s) (1 + count_at (tree.state b) path) (1 + count_at (tree.state b) path)
        (copy_published now path nonempty s (tree.state a) is_tree free (tree.state b) is (acted_end tree (Staging (staging_of path) s (tree.state a)) (IsStagingOf path s) before).outside)
        (λ step g. inr g) (omega arith) last))
