-- What no line governs stays as it is at each moment of phases one after the other, whatever is refused.
use Rattle.std.specs.Prelude.{◌≡◌, ℕ, Bool, true, false, cond, List, [], ◌∷◌, length, take, drop, None, is_some}
use Rattle.std.proofs.Common.{refl, sym, ap, subst, ◌∙◌, inl, inr}
use Rattle.std.proofs.lemmas.Bool.{false_from_ne_true}
use Rattle.std.specs.List.{AllByRecursion, list_any}
use Rattle.pv_clean.proofs.AgeLaws.{goes_aged}
use Rattle.pv_clean.proofs.InputLaws.{aged_governed}
use Rattle.pv_create.specs.OnTheWay.{IsFramed}
use Rattle.pv_create.proofs.BridgeLaws.{run_way}
use Rattle.pv_steps.specs.Courses.{Partway}
use Rattle.pv_walk.specs.Nodes.{object_states_of}
use Rattle.pv_walk.proofs.OperationLaws.{object_states_of-same}
use Rattle.pv_walk.specs.Whole.{goes_whole}
use Rattle.pv_walk.proofs.WholeLaws.{goes_parts}
use Rattle.pv_laws.proofs.AllFrames.{all_away, frame_after, frame_partway, shape_after}
use Rattle.pv_laws.proofs.Making.{IsShaped, is_dir}
use Rattle.pv_table.proofs.ListedLaws.{all_in_order}
use Rattle.pv_laws.proofs.Prepared.{object_state_some}
use Rattle.pv_laws.proofs.Sets.{impossible}
use Rattle.pv_laws.proofs.Shapes.{tree_shaped}
use Rattle.pv_lines.specs.declared.line.Line.{Line}
use Rattle.pv_lines.specs.Lines.{IsLine}
use Rattle.pv_path.specs.Paths.{Path, has_staging}
use Rattle.pv_remove.proofs.GovernedLaws.{purged_governed, removed_governed}
use Rattle.pv_remove.proofs.RunLaws.{purges_whole}
use Rattle.pv_table.proofs.GoingLaws.{goes_below, told_prefix}
use Rattle.pv_remove.proofs.StopLaws.{object_states-without}
use Rattle.pv_steps.specs.declared.object.Object.{Object}
use Rattle.pv_steps.specs.declared.step.Step.{Step}
use Rattle.pv_steps.specs.Objects.{object_state, changed, modified}
use Rattle.pv_steps.specs.Runs.{after_all, Ran}
use Rattle.pv_steps.specs.Same.{object_states}
use Rattle.pv_steps.specs.Trees.{Files, IsTree, places}
use Rattle.pv_table.specs.Active.{in_create_order}
use Rattle.pv_table.specs.Cleaned.{is_aged, may_go}
use Rattle.pv_table.specs.Reaching.{governs}
use Rattle.pv_table.specs.Removed.{covers, files_without, is_gone, is_purged, purges}
use Rattle.provision_run.specs.Phases.{left_by, on_way, phases_course}
use Rattle.provision_run.specs.declared.phase.Phase.{Phase}
use Rattle.provision_run.specs.declared.phase.Phase.TheVariants.{Remove, Clean, Create, Purge}
use Rattle.pv_path.proofs.Tests.{true_not_false}

-- ---- a tree from which paths are gone

module _ (goes : Path → Bool) (change : Object → Object) (keeps : (o : Object) → object_state (change o) ≡ object_state o) (t : Files) (q : Path) where
  abbrev left : Files
  left = files_without goes change t

  gone_object_state : goes q ≡ true → object_states_of (places left) q ≡ None
  gone_object_state h = object_states_of-same (places left) (λ p. None) q (object_states-without goes change keeps t q ∙ ap (λ b. cond b None (object_states (places t) q)) h)

  pub kept_object_state : goes q ≡ false → object_states_of (places left) q ≡ object_states_of (places t) q
  kept_object_state h = object_states_of-same (places left) (places t) q (object_states-without goes change keeps t q ∙ ap (λ b. cond b None (object_states (places t) q)) h)

  kept_there : is_some (object_states_of (places left) q) ≡ true → goes q ≡ false
  kept_there there = false_from_ne_true (goes q) (λ h. impossible (sym (ap is_some (gone_object_state h)) ∙ there))

-- its shape stays, where what goes goes whole
module _ (test : Path → Bool) (change : Object → Object) (keeps : (o : Object) → object_state (change o) ≡ object_state o) (t : Files) (shape : IsShaped (object_states_of (places t))) where
  abbrev goes : Path → Bool
  goes = goes_whole test t

  root_stays : goes [] ≡ false
  root_stays = false_from_ne_true (goes []) (λ h. impossible (goes_parts test t [] h).1)

  without_shaped : IsShaped (object_states_of (places (files_without goes change t)))
  without_shaped = record {
    root = ap is_dir (kept_object_state goes change keeps t [] root_stays) ∙ shape.root;
    above = λ p q plain under other there.
        let stays = kept_there goes change keeps t q there in
        let was : is_some (object_states_of (places t) q) ≡ true = sym (ap is_some (kept_object_state goes change keeps t q stays)) ∙ there in
        let over : goes p ≡ false = false_from_ne_true (goes p) (λ h. true_not_false (goes q) (goes_below test t p q h under (sym (object_state_some (places t q)) ∙ was)) stays) in
        ap is_dir (kept_object_state goes change keeps t p over) ∙ shape.above p q plain under other was;
    plain = λ q x unstaged e dir. shape.plain q x unstaged (sym (kept_object_state goes change keeps t q (kept_there goes change keeps t q (ap is_some e))) ∙ e) dir;
    named = λ q unstaged there. shape.named q unstaged (sym (ap is_some (kept_object_state goes change keeps t q (kept_there goes change keeps t q there))) ∙ there);
  }

-- ---- a phase

module _ (lines : List Line) (are : AllByRecursion IsLine lines) (now : ℕ) where
  -- it leaves the shape of a tree
  pub left_shaped : (phase : Phase) (t : Files) → IsShaped (object_states_of (places t)) → IsShaped (object_states_of (places (left_by lines now phase t)))
  left_shaped Remove t shape = without_shaped (λ q. list_any (λ line. covers line (places t) q) lines) (modified now) (λ o. refl) t shape
  left_shaped Clean t shape =
      subst (λ (goes : Path → Bool). IsShaped (object_states_of (places (files_without goes (changed now) t)))) (λ i q. goes_aged lines now t q i)
      (without_shaped (may_go lines now t) (changed now) (λ o. refl) t shape)
  left_shaped Create t shape = shape_after now (in_create_order lines) (all_in_order IsLine lines are) t shape
  left_shaped Purge t shape =
      subst (λ (goes : Path → Bool). IsShaped (object_states_of (places (files_without goes (modified now) t)))) (λ i q. purges_whole lines t q i)
      (without_shaped (λ q. list_any (λ line. purges line (places t) q) lines) (modified now) (λ o. refl) t shape)

  module _ (q : Path) (plain : has_staging q ≡ false) (free : list_any (λ line. governs line q) lines ≡ false) where
    -- what no line governs does not go
    not_gone : (t : Files) → is_gone lines t q ≡ false
    not_gone t = false_from_ne_true (is_gone lines t q) (λ h. true_not_false (list_any (λ line. governs line q) lines) (removed_governed lines t q are h) free)

    not_aged : (t : Files) → is_aged lines now t q ≡ false
    not_aged t = false_from_ne_true (is_aged lines now t q) (λ h. true_not_false (list_any (λ line. governs line q) lines) (aged_governed lines now t q h) free)

    not_purged : (t : Files) → is_purged lines t q ≡ false
    not_purged t = false_from_ne_true (is_purged lines t q) (λ h. true_not_false (list_any (λ line. governs line q) lines) (purged_governed lines t q are h) free)

    away : AllByRecursion (λ (line : Line). governs line q ≡ false) (in_create_order lines)
    away = all_in_order (λ (line : Line). governs line q ≡ false) lines (all_away now q plain lines free)

    -- on its way
    way_stays : (phase : Phase) (t u : Files) → IsShaped (object_states_of (places t)) → on_way lines now phase t u → object_states_of (places u) q ≡ object_states_of (places t) q
    way_stays Remove t u shape way = object_states_of-same (places u) (places t) q (way.outside q (not_gone t))
    way_stays Clean t u shape way = object_states_of-same (places u) (places t) q (way.outside q (not_aged t))
    way_stays Create t u shape way =
        frame_partway now q plain (in_create_order lines) (all_in_order IsLine lines are) away t u shape (run_way now (in_create_order lines) t u (all_in_order IsLine lines are) shape way)
    way_stays Purge t u shape way = object_states_of-same (places u) (places t) q (way.outside q (not_purged t))

    -- when it is whole
    left_stays : (phase : Phase) (t : Files) → IsShaped (object_states_of (places t)) → object_states_of (places (left_by lines now phase t)) q ≡ object_states_of (places t) q
    left_stays Remove t shape = kept_object_state (is_gone lines t) (modified now) (λ o. refl) t q (not_gone t)
    left_stays Clean t shape = kept_object_state (is_aged lines now t) (changed now) (λ o. refl) t q (not_aged t)
    left_stays Create t shape =
        frame_after now q plain (in_create_order lines) (all_in_order IsLine lines are) away t shape
    left_stays Purge t shape = kept_object_state (is_purged lines t) (modified now) (λ o. refl) t q (not_purged t)

    -- ---- phases one after the other

    phases_stay : (phases : List Phase) (t u : Files) → IsShaped (object_states_of (places t)) → Partway (phases_course lines now) phases t u → object_states_of (places u) q ≡ object_states_of (places t) q
    phases_stay [] t u shape same = sym (object_states_of-same (places t) (places u) q (same q plain))
    phases_stay (phase ∷ phases) t u shape (inl way) = way_stays phase t u shape way
    phases_stay (phase ∷ phases) t u shape (inr later) = phases_stay phases (left_by lines now phase t) u (left_shaped phase t shape) later ∙ left_stays phase t shape

-- at each moment on their way
pub ungoverned_stays : (lines : List Line) (now : ℕ) (phases : List Phase) (t u : Files) (q : Path) → IsTree t → AllByRecursion IsLine lines → Partway (phases_course lines now) phases t u
    → has_staging q ≡ false → list_any (λ line. governs line q) lines ≡ false → object_states_of (places u) q ≡ object_states_of (places t) q
ungoverned_stays lines now phases t u q tree are way plain free = phases_stay lines are now q plain free phases t u (tree_shaped (places t) tree) way

-- so after each number of the steps of a run
pub phases_framed : (lines : List Line) → AllByRecursion IsLine lines → (now : ℕ) (phases : List Phase) (Q : Step → Type 0) (t : Files) (h : List Step) (u : Files) (k : List Step) → IsTree t
    → Ran (Partway (phases_course lines now) phases t) Q now t h u k → IsFramed lines now t (drop (length h) k)
phases_framed lines are now phases Q t h u k tree run n q plain free =
    ungoverned_stays lines now phases t (after_all t (take n (drop (length h) k)) now) q tree are (told_prefix (Partway (phases_course lines now) phases t) Q now t h u k run n) plain free
