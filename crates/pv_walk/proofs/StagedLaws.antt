-- Laws of stages: what is made under a staging name stands there in stages alone, and so it does while it is renamed into place.
use Rattle.std.specs.Prelude.{◌≡◌, ◌≢◌, ℕ, ◌+◌, ◌≤◌, [], ◌∷◌, ◌++◌, Option, Some, None, option_map, Result, Ok}
use Rattle.std.proofs.Common.{refl, sym, ap, subst, ◌∙◌, inl, inr, arith}
use Rattle.pv_path.specs.Paths.{Path, staging_of}
use Rattle.pv_path.proofs.PathLaws.{is_prefix-append, rest_under-None}
use Rattle.pv_steps.specs.declared.step.Step.{Step}
use Rattle.pv_steps.specs.declared.tree.Tree.{Ghosts}
use Rattle.pv_steps.specs.declared.tree.TreeFault.{TreeFault}
use Rattle.pv_steps.specs.Acting.{Acted}
use Rattle.pv_steps.specs.Steps.{moved}
use Rattle.pv_steps.specs.Trees.{Files, places, IsAbsentIn, IsTree}
use Rattle.pv_steps.proofs.ActingLaws.{Moves, acted_then, acted_weaken, acted_within, acted_end}
use Rattle.pv_walk.specs.declared.object_state.ObjectState.{ObjectState}
use Rattle.pv_walk.specs.Nodes.{object_state_of, object_states_of}
use Rattle.pv_walk.proofs.EditLaws.{moved_away}
use Rattle.pv_walk.proofs.OperationLaws.{object_states_of-same}
use Rattle.pv_walk.specs.Copying.{Subtree}
use Rattle.pv_walk.specs.Removal.{Publishing}
use Rattle.pv_walk.specs.Stages.{IsAtStage, AreFilledFirst, InStages, Staging, standing_at}
use Rattle.pv_walk.specs.Staging.{IsPublishing}
use Rattle.pv_walk.proofs.PublishLaws.{staged_outside}
use Rattle.pv_walk.proofs.PuttingLaws.{none_under}

-- what stands as it stood is at the stage at which it was
pub at_same : {wanted old : Option ObjectState} → IsAtStage wanted old → (now : Option ObjectState) → now ≡ old → IsAtStage wanted now
at_same {wanted = wanted} before now e = subst (λ (o : Option ObjectState). IsAtStage wanted o) (sym e) before

-- where nothing stands, nothing is at a wrong stage
pub none_staged : (path : Path) (s : Subtree) (u : Files) → ((rest : Path) → object_states_of (places u) (path ++ rest) ≡ None) → InStages path s u
none_staged path s u none = record {
  each = λ rest. IsAtStage.none (none rest);
  filled = λ rest found is dir. absurd (let no : None ≡ Some found = sym (none rest) ∙ is in cc);
}

-- what is filled first is so wherever the same stands
pub filled_same : (s old now : Subtree) → ((rest : Path) → now rest ≡ old rest) → AreFilledFirst s old → AreFilledFirst s now
filled_same s old now same h rest found is dir = elim (h rest found (sym (same rest) ∙ is) dir) [
  | inl plain ↦ inl plain
  | inr full ↦ inr (λ name below. same (rest ++ name ∷ below) ∙ full name below)
]

-- nothing is made yet
pub staged_start : (path : Path) (s : Subtree) (t : Files) → IsTree t → IsAbsentIn (places t) path → Staging path s t t
staged_start path s t tree free = record {
  outside = λ q e. refl;
  stages = none_staged path s t (λ rest. ap (option_map object_state_of) (none_under (places t) tree path (path ++ rest) free (is_prefix-append path rest)));
}

module _ (path : Path) (nonempty : path ≢ []) (s : Subtree) where
  -- so it is while the object at the path makes way, and then nothing is left
  pub published_stages : (now : ℕ) (u : Files) → InStages (staging_of path) s u → (w : Files) → Publishing now path u w → InStages (staging_of path) s w
  published_stages now u h w (inl c) = record {
    each = λ rest. at_same (h.each rest) (standing_at (staging_of path) w rest) (same rest);
    filled = filled_same s (standing_at (staging_of path) u) (standing_at (staging_of path) w) same h.filled;
  }
    where
      same : (rest : Path) → standing_at (staging_of path) w rest ≡ standing_at (staging_of path) u rest
      same rest = object_states_of-same (places w) (places u) (staging_of path ++ rest) (c.pruned.outside (staging_of path ++ rest) (staged_outside path nonempty rest))
  published_stages now u h w (inr e) = none_staged (staging_of path) s w (λ rest. object_states_of-same (places w) (moved now (staging_of path) path (places u)) (staging_of path ++ rest) (e (staging_of path ++ rest))
      ∙ ap (option_map object_state_of) (moved_away now (staging_of path) path (places u) (staging_of path ++ rest) (rest_under-None path (staging_of path ++ rest) (staged_outside path nonempty rest)) (is_prefix-append (staging_of path) rest)))

  module _ {S : Type 0} (tree : Ghosts S) (Gives Puts : Step → Type 0) (first : (step : Step) → Gives step → Puts step) {now : ℕ} {a b : S} where
    pub stages_staged : {A : Type 0} {m : ℕ} {r : Result A TreeFault} (n : ℕ) → m ≤ n → Acted tree (Staging (staging_of path) s (tree.state a)) Gives m now a b r
        → Acted tree (InStages (staging_of path) s) Puts n now a b r
    stages_staged {m = m} n le before = acted_weaken tree (Staging (staging_of path) s (tree.state a)) (InStages (staging_of path) s) Gives Puts m n (λ u h. h.stages) first le before

    -- what is staged is renamed into place
    pub stages_published : {A B : Type 0} {m n : ℕ} {c : S} {x : A} {r : Result B TreeFault} → Moves tree → ((step : Step) → IsPublishing path step → Puts step) → (most : ℕ) → m + n ≤ most
        → Acted tree (Staging (staging_of path) s (tree.state a)) Gives m now a b (Ok x) → Acted tree (Publishing now path (tree.state b)) (IsPublishing path) n now b c r
        → Acted tree (InStages (staging_of path) s) Puts most now a c r
    stages_published {m = m} {n = n} moves last most le before after =
        acted_within tree (m + n) most le
        (acted_then tree moves (InStages (staging_of path) s) Puts (stages_staged m (omega arith) before)
        (acted_weaken tree (Publishing now path (tree.state b)) (InStages (staging_of path) s) (IsPublishing path) Puts n n
        (published_stages now (tree.state b) (acted_end tree (Staging (staging_of path) s (tree.state a)) Gives before).stages) last (omega arith) after))
