-- Users decided one after another.
use Rattle.std.proofs.Common.{◌≡◌, ℕ, ◌+◌, ◌<◌, Bool, true, false, List, [], ◌∷◌, ◌++◌, drop, get_or, length, Some, None, is_some, add-one, append_assoc, refl, sym, ap, ◌∙◌}
use Rattle.std.proofs.Math.Seq.{drop-cons}
use Rattle.pv_accounts.specs.InUse.{Ids, id_of}
use Rattle.pv_sysusers.specs.Users.{NewUsers, decided_users, new_user, user_choice}
use Rattle.pv_sysusers.specs.Deciding.{Lacks, UnlessMemoryBy}
use Rattle.pv_sysusers.specs.declared.needs.Account.{Account}
use Rattle.pv_sysusers.specs.declared.plan_fault.PlanFault.{PlanFault}
use Rattle.pv_sysusers.specs.declared.plan_fault.PlanFault.TheVariants.{Memory, NoFreeId}
use Rattle.pv_sysusers.specs.declared.users.NewUser.{NewUser}

-- what was decided and what is left to be decided make the whole
pub record Underway (whole left : NewUsers) (new : List NewUser) (new_messages heard : List (List ℕ)) : Type 0 where
  pub made : new ++ left.made ≡ whole.made
  pub stated : heard ++ left.new_messages ≡ new_messages ++ whole.new_messages
  pub lacking : left.lacking ≡ whole.lacking

module _ (pooled : ℕ → Bool) (groups : Ids) where
  -- the first of the users that are left
  next : (users : Ids) (accounts : List Account) (i : ℕ) (account : Account) → i < length accounts → account ≡ get_or accounts i account
      → decided_users pooled groups users (drop i accounts) ≡ decided_users pooled groups users (account ∷ drop (i + 1) accounts)
  next users accounts i account below is =
      let e : drop i accounts ≡ get_or accounts i account ∷ drop (i + 1) accounts = rw (drop-cons accounts i account below, add-one i) refl in
      ap (decided_users pooled groups users) e ∙ ap (λ (a : Account). decided_users pooled groups users (a ∷ drop (i + 1) accounts)) (sym is)

  -- a user that is there
  pub step_there : (whole : NewUsers) (users : Ids) (made : List NewUser) (new_messages stated : List (List ℕ)) (accounts : List Account) (i : ℕ) (account : Account) → i < length accounts → account ≡ get_or accounts i account
      → is_some (id_of users account.name) ≡ true → Underway whole (decided_users pooled groups users (drop i accounts)) made new_messages stated
      → Underway whole (decided_users pooled groups users (drop (i + 1) accounts)) made new_messages stated
  step_there whole users made new_messages stated accounts i account below is there way =
      let e : decided_users pooled groups users (drop i accounts) ≡ decided_users pooled groups users (drop (i + 1) accounts) = next users accounts i account below is ∙ rw there refl in
      rw e at way

  -- a user that gets a number
  pub step_new : (whole : NewUsers) (users : Ids) (made : List NewUser) (users' : Ids) (new_messages stated stated' : List (List ℕ)) (accounts : List Account) (i : ℕ) (account : Account) (n : ℕ) → i < length accounts → account ≡ get_or accounts i account
      → is_some (id_of users account.name) ≡ false → Some n ≡ (user_choice pooled users groups account).number
      → stated' ≡ stated ++ (user_choice pooled users groups account).new_messages → users' ≡ users ++ (account.name, n) ∷ []
      → Underway whole (decided_users pooled groups users (drop i accounts)) made new_messages stated
      → Underway whole (decided_users pooled groups users' (drop (i + 1) accounts)) (made ++ new_user groups account n ∷ []) new_messages stated'
  step_new whole users made users' new_messages stated stated' accounts i account n below is new number saying more way =
      let rest : NewUsers = decided_users pooled groups (users ++ (account.name, n) ∷ []) (drop (i + 1) accounts) in
      let e : decided_users pooled groups users (drop i accounts) ≡ record { made = new_user groups account n ∷ rest.made; new_messages = (user_choice pooled users groups account).new_messages ++ rest.new_messages; lacking = rest.lacking } =
      next users accounts i account below is ∙ rw (new, ← number) refl in
      let after = rw e at way in
      rw (more, saying) (record {
        made = append_assoc made (new_user groups account n ∷ []) rest.made ∙ after.made;
        stated = append_assoc stated (user_choice pooled users groups account).new_messages rest.new_messages ∙ after.stated;
        lacking = after.lacking;
      })

  -- a user for whom no number is left
  pub step_lacking : (whole : NewUsers) (users : Ids) (made : List NewUser) (new_messages stated stated' : List (List ℕ)) (accounts : List Account) (i : ℕ) (account : Account) → i < length accounts → account ≡ get_or accounts i account
      → is_some (id_of users account.name) ≡ false → None ≡ (user_choice pooled users groups account).number
      → stated' ≡ stated ++ (user_choice pooled users groups account).new_messages
      → Underway whole (decided_users pooled groups users (drop i accounts)) made new_messages stated
      → (whole.lacking ≡ Some account.name) × (stated' ≡ new_messages ++ whole.new_messages)
  step_lacking whole users made new_messages stated stated' accounts i account below is new number saying way =
      let e : decided_users pooled groups users (drop i accounts) ≡ record { made = []; new_messages = (user_choice pooled users groups account).new_messages; lacking = Some account.name } =
      next users accounts i account below is ∙ rw (new, ← number) refl in
      let after = rw e at way in
      (sym after.lacking, saying ∙ after.stated)

  -- a fault of a user for whom no number is left, or of memory
  pub step_fault : (whole : NewUsers) (users : Ids) (made : List NewUser) (new_messages stated stated' : List (List ℕ)) (accounts : List Account) (i : ℕ) (account : Account) (fault : PlanFault) → i < length accounts → account ≡ get_or accounts i account
      → is_some (id_of users account.name) ≡ false → UnlessMemoryBy fault (None ≡ (user_choice pooled users groups account).number) → Lacks (Some account.name) fault
      → UnlessMemoryBy fault (stated' ≡ stated ++ (user_choice pooled users groups account).new_messages)
      → Underway whole (decided_users pooled groups users (drop i accounts)) made new_messages stated
      → Lacks whole.lacking fault × UnlessMemoryBy fault (stated' ≡ new_messages ++ whole.new_messages)
  step_fault whole users made new_messages stated stated' accounts i account Memory below is new number lacks saying way = (tt, tt)
  step_fault whole users made new_messages stated stated' accounts i account (NoFreeId name) below is new number lacks saying way =
      let both = step_lacking whole users made new_messages stated stated' accounts i account below is new number saying way in
      (both.0 ∙ lacks, both.1)
