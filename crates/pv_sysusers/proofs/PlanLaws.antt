-- Plans by their parts.
use Rattle.std.proofs.Common.{◌≡◌, ℕ, Bool, List, ◌++◌, Some, None, Result, Ok, Err, IfErr, append_assoc, refl, sym, ap, subst, ◌∙◌}
use Rattle.std.specs.Prelude.{IsErrAnd}
use Rattle.pv_accounts.specs.Entries.{is_group, is_passwd}
use Rattle.pv_accounts.specs.InUse.{Ids, ids_of}
use Rattle.pv_sysusers.specs.Groups.{NewGroups}
use Rattle.pv_sysusers.specs.Deciding.{Lacks, UnlessMemory, UnlessMemoryBy, pooled_by, users_by}
use Rattle.pv_sysusers.specs.Lines.{Line}
use Rattle.pv_sysusers.specs.Needs.{fixed_for}
use Rattle.pv_sysusers.specs.Planning.{IsWanted, Misses, numbers_in}
use Rattle.pv_sysusers.specs.Plans.{AccountFiles, Numbers, accounts_by, needs_by, numbers_after, numbers_by, numbers_of, plan_of, pool_by, texts_of, texts_or, with_users}
use Rattle.pv_sysusers.specs.Users.{NewUsers, decided_users}
use Rattle.pv_sysusers.specs.declared.plan_fault.PlanFault.{PlanFault}
use Rattle.pv_sysusers.specs.declared.plan_fault.PlanFault.TheVariants.{NoFreeId, Memory}
use Rattle.pv_sysusers.specs.declared.needs.Account.{Account}
use Rattle.pv_sysusers.specs.declared.planned.Texts.{Texts}
use Rattle.pv_sysusers.specs.declared.wanted.Wanted.{Wanted}

-- the numbers where all groups got one
pub after_groups : (pooled : ℕ → Bool) (users groups : Ids) (accounts : List Account) (new : NewGroups) → new.lacking ≡ None
    → numbers_after pooled users groups accounts new ≡ with_users new (decided_users pooled (groups ++ new.made) users accounts)
after_groups pooled users groups accounts new whole = rw whole refl

-- the numbers where a group got none
pub without_group : (pooled : ℕ → Bool) (users groups : Ids) (accounts : List Account) (new : NewGroups) (name : List ℕ) → new.lacking ≡ Some name
    → ((numbers_after pooled users groups accounts new).lacking ≡ Some name) × ((numbers_after pooled users groups accounts new).new_messages ≡ new.new_messages)
without_group pooled users groups accounts new name none = (rw none refl, rw none refl)

-- the users that are decided after them
pub users_same : (wanted : Wanted) (users groups all : Ids) (new : NewGroups) → all ≡ groups ++ new.made
    → users_by wanted all users ≡ decided_users (pooled_by wanted.pool) (groups ++ new.made) users wanted.accounts.items
users_same wanted users groups all new whole = ap (λ (ids : Ids). users_by wanted ids users) whole

-- where a group got no number
pub groups_lack : (pooled : ℕ → Bool) (users groups : Ids) (accounts : List Account) (new : NewGroups) (fault : PlanFault) → Lacks new.lacking fault
    → Lacks (numbers_after pooled users groups accounts new).lacking fault
groups_lack pooled users groups accounts new Memory lacks = lacks
groups_lack pooled users groups accounts new (NoFreeId name) lacks = (without_group pooled users groups accounts new name lacks).0

-- where a user got no number
pub users_lack : (numbers : Numbers) (new : NewGroups) (decided users : NewUsers) (fault : PlanFault) → numbers ≡ with_users new users → decided ≡ users → Lacks decided.lacking fault → Lacks numbers.lacking fault
users_lack numbers new decided users Memory is same lacks = lacks
users_lack numbers new decided users (NoFreeId name) is same lacks = ap (λ (n : Numbers). n.lacking) is ∙ ap (λ (u : NewUsers). u.lacking) (sym same) ∙ lacks

-- what was said of groups and then of users
pub both_messages : (numbers : Numbers) (groups new : NewGroups) (decided users : NewUsers) (new_messages stated heard : List (List ℕ)) → numbers ≡ with_users new users → groups ≡ new → decided ≡ users
    → stated ≡ new_messages ++ groups.new_messages → heard ≡ stated ++ decided.new_messages → heard ≡ new_messages ++ numbers.new_messages
both_messages numbers groups new decided users new_messages stated heard is same also first then_messages =
    then_messages ∙ (λ j. first j ++ decided.new_messages) ∙ append_assoc new_messages groups.new_messages decided.new_messages
    ∙ ap (λ (ms : List (List ℕ)). new_messages ++ ms) ((λ j. (same j).new_messages ++ (also j).new_messages) ∙ ap (λ (n : Numbers). n.new_messages) (sym is))

-- and where a user got none
pub users_told : (numbers : Numbers) (groups new : NewGroups) (decided users : NewUsers) (fault : PlanFault) (new_messages stated heard : List (List ℕ)) → numbers ≡ with_users new users → groups ≡ new → decided ≡ users
    → stated ≡ new_messages ++ groups.new_messages → UnlessMemoryBy fault (heard ≡ stated ++ decided.new_messages) → UnlessMemoryBy fault (heard ≡ new_messages ++ numbers.new_messages)
users_told numbers groups new decided users Memory new_messages stated heard is same also first then_messages = then_messages
users_told numbers groups new decided users (NoFreeId name) new_messages stated heard is same also first then_messages = both_messages numbers groups new decided users new_messages stated heard is same also first then_messages

-- the numbers by what lines ask for are those of the lines
pub numbers_same : (files : AccountFiles) (lines : List Line) (wanted : Wanted) (users groups : Ids) → users ≡ ids_of is_passwd files.passwd → groups ≡ ids_of is_group files.group → IsWanted users lines wanted
    → numbers_in wanted users groups ≡ numbers_of files lines
numbers_same files lines wanted users groups eu eg is =
    (λ j. numbers_by (λ n. is.pool n j) (fixed_for (is.needs j)) users groups (is.needs j) (is.accounts j))
    ∙ (λ j. numbers_by (pool_by (eu j) lines) (fixed_for (needs_by (eu j) lines)) (eu j) (eg j) (needs_by (eu j) lines) (accounts_by (eu j) lines))

-- the plan where no number is lacking
pub plan_whole : (files : AccountFiles) (lines : List Line) (day : ℕ) (numbers : Numbers) (texts : Texts) → numbers ≡ numbers_of files lines → numbers.lacking ≡ None
    → texts ≡ texts_of files lines day numbers → (plan_of files lines day).texts ≡ Ok texts
plan_whole files lines day numbers texts is whole made =
    let none : (numbers_of files lines).lacking ≡ None = ap (λ (n : Numbers). n.lacking) (sym is) ∙ whole in
    ap (texts_or (texts_of files lines day (numbers_of files lines))) none
    ∙ ap (λ (t : Texts). Ok t) (ap (texts_of files lines day) (sym is) ∙ sym made)

-- the plan where one is
pub plan_lacking : (files : AccountFiles) (lines : List Line) (day : ℕ) (numbers : Numbers) (fault : PlanFault) → numbers ≡ numbers_of files lines → Lacks numbers.lacking fault → Misses (plan_of files lines day).texts fault
plan_lacking files lines day numbers Memory is lacks = lacks
plan_lacking files lines day numbers (NoFreeId name) is lacks =
    ap (texts_or (texts_of files lines day (numbers_of files lines))) (ap (λ (n : Numbers). n.lacking) (sym is) ∙ lacks)

-- what was said, told by an equal list
pub told_same : (fault : PlanFault) (heard new_messages a b : List (List ℕ)) → a ≡ b → UnlessMemoryBy fault (heard ≡ new_messages ++ a) → UnlessMemoryBy fault (heard ≡ new_messages ++ b)
told_same Memory heard new_messages a b e stated = stated
told_same (NoFreeId name) heard new_messages a b e stated = stated ∙ ap (λ (ms : List (List ℕ)). new_messages ++ ms) e

-- what was said before a part of a run
pub told_after : {A : Type 0} (r : Result A PlanFault) (heard stated new_messages a b : List (List ℕ)) → stated ≡ new_messages ++ a → UnlessMemory r (heard ≡ stated ++ b) → UnlessMemory r (heard ≡ new_messages ++ (a ++ b))
told_after (Ok x) heard stated new_messages a b first then_messages = then_messages ∙ ap (λ (ms : List (List ℕ)). ms ++ b) first ∙ append_assoc new_messages a b
told_after (Err Memory) heard stated new_messages a b first then_messages = then_messages
told_after (Err (NoFreeId name)) heard stated new_messages a b first then_messages = then_messages ∙ ap (λ (ms : List (List ℕ)). ms ++ b) first ∙ append_assoc new_messages a b

-- ---- a call that runs out of memory

-- it misses no text
pub memory_misses : {A : Type 0} (r : Result A PlanFault) (texts : Result Texts (List ℕ)) → IsErrAnd r (λ fault. fault ≡ Memory) → IfErr r (Misses texts)
memory_misses (Ok x) texts is = absurd is
memory_misses (Err fault) texts is = subst (Misses texts) (sym is) tt

-- and owes nothing
pub memory_owes : {A : Type 0} (r : Result A PlanFault) (P : Type 0) → IsErrAnd r (λ fault. fault ≡ Memory) → UnlessMemory r P
memory_owes (Ok x) P is = absurd is
memory_owes (Err fault) P is = subst (λ (fault : PlanFault). UnlessMemoryBy fault P) (sym is) tt
