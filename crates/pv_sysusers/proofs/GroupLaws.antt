-- Groups decided one after another.
use Rattle.std.proofs.Common.{◌≡◌, ℕ, ◌+◌, ◌<◌, Bool, true, false, List, [], ◌∷◌, ◌++◌, drop, get_or, length, Option, Some, None, is_some, add-one, append_assoc, refl, sym, ap, ◌∙◌}
use Rattle.std.proofs.Math.Seq.{drop-cons}
use Rattle.pv_accounts.specs.InUse.{Ids, id_of}
use Rattle.pv_text.specs.declared.place.Place.{Place}
use Rattle.pv_sysusers.specs.Groups.{NewGroups, decided_groups, group_choice}
use Rattle.pv_sysusers.specs.Deciding.{Lacks, UnlessMemoryBy}
use Rattle.pv_sysusers.specs.declared.needs.Need.{Need}
use Rattle.pv_sysusers.specs.declared.plan_fault.PlanFault.{PlanFault}
use Rattle.pv_sysusers.specs.declared.plan_fault.PlanFault.TheVariants.{Memory, NoFreeId}

-- what was decided and what is left to be decided make the whole
pub record Underway (whole left : NewGroups) (old now new : Ids) (new_messages heard : List (List ℕ)) : Type 0 where
  pub made : new ++ left.made ≡ whole.made
  pub all : now ≡ old ++ new
  pub stated : heard ++ left.new_messages ≡ new_messages ++ whole.new_messages
  pub lacking : left.lacking ≡ whole.lacking

module _ (pooled : ℕ → Bool) (users : Ids) (fixed : List ℕ → Option (ℕ × Place)) where
  -- the first of the needs that are left
  next : (groups : Ids) (needs : List Need) (i : ℕ) (need : Need) → i < length needs → need ≡ get_or needs i need
      → decided_groups pooled users fixed groups (drop i needs) ≡ decided_groups pooled users fixed groups (need ∷ drop (i + 1) needs)
  next groups needs i need below is =
      let e : drop i needs ≡ get_or needs i need ∷ drop (i + 1) needs = rw (drop-cons needs i need below, add-one i) refl in
      ap (decided_groups pooled users fixed groups) e ∙ ap (λ (n : Need). decided_groups pooled users fixed groups (n ∷ drop (i + 1) needs)) (sym is)

  -- a group that is there
  pub step_there : (whole : NewGroups) (old groups made : Ids) (new_messages stated : List (List ℕ)) (needs : List Need) (i : ℕ) (need : Need) → i < length needs → need ≡ get_or needs i need
      → is_some (id_of groups need.name) ≡ true → Underway whole (decided_groups pooled users fixed groups (drop i needs)) old groups made new_messages stated
      → Underway whole (decided_groups pooled users fixed groups (drop (i + 1) needs)) old groups made new_messages stated
  step_there whole old groups made new_messages stated needs i need below is there way =
      let e : decided_groups pooled users fixed groups (drop i needs) ≡ decided_groups pooled users fixed groups (drop (i + 1) needs) = next groups needs i need below is ∙ rw there refl in
      rw e at way

  -- a group that gets a number
  pub step_new : (whole : NewGroups) (old groups made groups' : Ids) (new_messages stated stated' : List (List ℕ)) (needs : List Need) (i : ℕ) (need : Need) (n : ℕ) → i < length needs → need ≡ get_or needs i need
      → is_some (id_of groups need.name) ≡ false → Some n ≡ (group_choice pooled users groups need.name (fixed need.name)).number
      → stated' ≡ stated ++ (group_choice pooled users groups need.name (fixed need.name)).new_messages → groups' ≡ groups ++ (need.name, n) ∷ []
      → Underway whole (decided_groups pooled users fixed groups (drop i needs)) old groups made new_messages stated
      → Underway whole (decided_groups pooled users fixed groups' (drop (i + 1) needs)) old groups' (made ++ (need.name, n) ∷ []) new_messages stated'
  step_new whole old groups made groups' new_messages stated stated' needs i need n below is new number saying more way =
      let rest : NewGroups = decided_groups pooled users fixed (groups ++ (need.name, n) ∷ []) (drop (i + 1) needs) in
      let e : decided_groups pooled users fixed groups (drop i needs) ≡ record { made = (need.name, n) ∷ rest.made; new_messages = (group_choice pooled users groups need.name (fixed need.name)).new_messages ++ rest.new_messages; lacking = rest.lacking } =
      next groups needs i need below is ∙ rw (new, ← number) refl in
      let after = rw e at way in
      rw (more, saying) (record {
        made = append_assoc made ((need.name, n) ∷ []) rest.made ∙ after.made;
        all = ap (λ (ids : Ids). ids ++ (need.name, n) ∷ []) after.all ∙ append_assoc old made ((need.name, n) ∷ []);
        stated = append_assoc stated (group_choice pooled users groups need.name (fixed need.name)).new_messages rest.new_messages ∙ after.stated;
        lacking = after.lacking;
      })

  -- a group for which no number is left
  pub step_lacking : (whole : NewGroups) (old groups made : Ids) (new_messages stated stated' : List (List ℕ)) (needs : List Need) (i : ℕ) (need : Need) → i < length needs → need ≡ get_or needs i need
      → is_some (id_of groups need.name) ≡ false → None ≡ (group_choice pooled users groups need.name (fixed need.name)).number
      → stated' ≡ stated ++ (group_choice pooled users groups need.name (fixed need.name)).new_messages
      → Underway whole (decided_groups pooled users fixed groups (drop i needs)) old groups made new_messages stated
      → (whole.lacking ≡ Some need.name) × (stated' ≡ new_messages ++ whole.new_messages)
  step_lacking whole old groups made new_messages stated stated' needs i need below is new number saying way =
      let e : decided_groups pooled users fixed groups (drop i needs) ≡ record { made = []; new_messages = (group_choice pooled users groups need.name (fixed need.name)).new_messages; lacking = Some need.name } =
      next groups needs i need below is ∙ rw (new, ← number) refl in
      let after = rw e at way in
      (sym after.lacking, saying ∙ after.stated)

  -- a fault of a group for which no number is left, or of memory
  pub step_fault : (whole : NewGroups) (old groups made : Ids) (new_messages stated stated' : List (List ℕ)) (needs : List Need) (i : ℕ) (need : Need) (fault : PlanFault) → i < length needs → need ≡ get_or needs i need
      → is_some (id_of groups need.name) ≡ false → UnlessMemoryBy fault (None ≡ (group_choice pooled users groups need.name (fixed need.name)).number) → Lacks (Some need.name) fault
      → UnlessMemoryBy fault (stated' ≡ stated ++ (group_choice pooled users groups need.name (fixed need.name)).new_messages)
      → Underway whole (decided_groups pooled users fixed groups (drop i needs)) old groups made new_messages stated
      → Lacks whole.lacking fault × UnlessMemoryBy fault (stated' ≡ new_messages ++ whole.new_messages)
  step_fault whole old groups made new_messages stated stated' needs i need Memory below is new number lacks saying way = (tt, tt)
  step_fault whole old groups made new_messages stated stated' needs i need (NoFreeId name) below is new number lacks saying way =
      let both = step_lacking whole old groups made new_messages stated stated' needs i need below is new number saying way in
      (both.0 ∙ lacks, both.1)
