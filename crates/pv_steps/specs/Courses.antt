-- Something that is done over a tree step by step, and may be cut short, such as a line at a path. A course says
-- what it leaves when it is complete, and which trees are its intermediate states. It also says which steps it may
-- do, and what it has done and written if it was cut short. At the end: the same for several such things, one after
-- the other.
use Rattle.std.specs.Prelude.{◌≡◌, ◌⊎◌, ℕ, ◌+◌, ◌≤◌, List, [], ◌∷◌, ◌++◌, length, take, if◌then◌else◌, Bool, Result, IfOk, OnOk}
use Rattle.std.specs.List.{AllByRecursion}
use Rattle.pv_steps.specs.declared.step.Step.{Step}
use Rattle.pv_steps.specs.declared.tree.Tree.{Ghosts}
use Rattle.pv_steps.specs.declared.tree.TreeFault.{TreeFault}
use Rattle.pv_steps.specs.Acting.{refused, Acted}
use Rattle.pv_steps.specs.Runs.{after_all, Along}
use Rattle.pv_steps.specs.Trees.{Files}
use Rattle.pv_steps.specs.Same.{Same}
use Rattle.pv_steps.specs.declared.carried.Carried.{Carried}
use Rattle.pv_steps.specs.declared.carried.Carried.TheVariants.{Whole, NotCarriedOut}
use Rattle.pv_steps.specs.Doing.{Doing, after_each, messages_for_each, one_is_refused, taken_by_each}
use Rattle.pv_text.specs.GivenMessages.{MessagesPart}

-- A course for things of a type A.
pub record Course (A : Type 0) : Type 1 where
  -- What the complete thing leaves, writes and takes.
  pub whole : Doing A
  -- Whether the second tree may be an intermediate state, if the thing began in the first.
  pub way : A → Files → Files → Type 0
  -- Whether the thing may do this step, if it began in this tree.
  pub steps : A → Files → Step → Type 0
  -- Whether this may be what a thing has done that was cut short. The arguments are the time, the number of refused
  -- steps, the thing, the tree in which it began, its steps and its messages.
  pub cut : ℕ → ℕ → A → Files → List Step → List (List ℕ) → Type 0

-- One thing was cut short. It has done the steps `done` and written the messages `new_messages`.
pub record AtWork {A : Type 0} (whole : Doing A) (way : A → Files → Files → Type 0) (steps : A → Files → Step → Type 0)
    (now refused : ℕ) (x : A) (t : Files) (done : List Step) (new_messages : List (List ℕ)) : Type 0 where
  -- The tree in which it began, and the tree after each step, are intermediate states. Each step is effective when it
  -- is done.
  pub along : Along (way x t) t done now
  -- Each step is one that the thing may do.
  pub own : AllByRecursion (steps x t) done
  -- Its steps, refused ones included, are no more than the complete thing takes.
  pub within : length done + refused ≤ whole.takes x t
  -- Its messages are a prefix of those of the complete thing.
  pub front : (n : ℕ) × (new_messages ≡ take n (whole.says x t))

-- One thing as a course.
abbrev pub single : {A : Type 0} → Doing A → (A → Files → Files → Type 0) → (A → Files → Step → Type 0) → Course A
single whole way steps = record { whole = whole; way = way; steps = steps; cut = AtWork whole way steps }

-- ---- one after the other

-- The second tree is an intermediate state of several things that began in the first: those before one of them are
-- complete, and the tree is an intermediate state of this one. Or all are complete, and the tree is the same as
-- theirs.
abbrev pub Partway : {A : Type 0} → Course A → List A → Files → Files → Type 0
Partway c [] t u = Same t u
Partway c (x ∷ xs) t u = c.way x t u ⊎ Partway c xs (c.whole.after x t) u

-- A step is one that one of several things may do. Each begins in the tree that those before it leave.
abbrev pub IsStepOfSome : {A : Type 0} → Course A → List A → Files → Step → Type 0
IsStepOfSome c [] t step = ⊥
IsStepOfSome c (x ∷ xs) t step = c.steps x t step ⊎ IsStepOfSome c xs (c.whole.after x t) step

-- The first of several things is complete, and those after it were cut short.
pub record DoneBefore {A : Type 0} (c : Course A) (now : ℕ) (x : A) (t : Files) (Later : List Step → List (List ℕ) → Type 0)
    (steps : List Step) (new_messages : List (List ℕ)) : Type 0 where
  -- The steps of the first.
  pub own : List Step
  -- The steps of those after it.
  pub more : List Step
  -- The messages of those after it.
  pub texts : List (List ℕ)
  -- The steps are those of the first, and then the others.
  pub done : steps ≡ own ++ more
  -- The messages are all those of the first, and then the others.
  pub stated : new_messages ≡ c.whole.says x t ++ texts
  -- The first may have done these steps and written all its messages, and none of its steps was refused.
  pub first : c.cut now 0 x t own (c.whole.says x t)
  -- They lead to the tree that the first leaves.
  pub left : after_all t own now ≡ c.whole.after x t
  -- These steps and messages are such as those after it may have when cut short.
  pub later : Later more texts

-- Several things were cut short. Those before one of them are complete, this one was cut short, and those after it
-- have done and written nothing. Only this one was refused a step. Or all are complete, and none was refused a step.
abbrev pub Cut : {A : Type 0} → Course A → ℕ → ℕ → List A → Files → List Step → List (List ℕ) → Type 0
Cut c now refused [] t steps new_messages = (refused ≡ 0) × (steps ≡ []) × (new_messages ≡ [])
Cut c now refused (x ∷ xs) t steps new_messages =
    c.cut now refused x t steps new_messages ⊎ DoneBefore c now x t (Cut c now refused xs (c.whole.after x t)) steps new_messages

-- How it ended: `NotCarriedOut` if something was refused, otherwise `Whole`.
abbrev pub carried_of : Bool → Carried
carried_of refused = if refused then NotCarriedOut else Whole

-- Several things, one after the other, as one course.
abbrev pub each_of : {A : Type 0} → Course A → Course (List A)
each_of c = record {
  whole = record { after = after_each c.whole; says = messages_for_each c.whole; is_refused = one_is_refused c.whole; takes = taken_by_each c.whole };
  way = Partway c;
  steps = IsStepOfSome c;
  cut = Cut c;
}

-- ---- calls

-- A call has done some steps and written some messages, and `Is` holds of them. `before` and `behind` are the
-- messages before and after the call.
pub record HasGone {S : Type 0} (tree : Ghosts S) (Is : List Step → List (List ℕ) → Type 0) (now : ℕ) (old new : S)
    (before behind : List (List ℕ)) : Type 0 where
  pub steps : List Step
  pub texts : List (List ℕ)
  pub recorded : tree.steps new ≡ tree.steps old ++ steps
  pub reached : tree.state new ≡ after_all (tree.state old) steps now
  pub new_messages : behind ≡ before ++ texts
  pub is : Is steps texts

-- A call has carried out a thing over a tree. `before` and `behind` are the messages before and after the call.
pub record CarriesOut {S A : Type 0} (tree : Ghosts S) (c : Course A) (x : A) (now : ℕ) (old new : S) (before behind : List (List ℕ))
    (r : Result Carried TreeFault) : Type 0 where
  -- If the answer is `Ok`, the tree is the one that the complete thing leaves.
  pub ok : OnOk r (tree.state new ≡ c.whole.after x (tree.state old))
  -- If the answer is `Ok`, all messages of the complete thing were written.
  pub new_messages : OnOk r (behind ≡ before ++ c.whole.says x (tree.state old))
  -- If the answer is `Ok`, it says whether the thing was refused at some path.
  pub carried : IfOk r (λ ended. ended ≡ carried_of (c.whole.is_refused x (tree.state old)))
  -- Whatever the answer, a prefix of the messages of the complete thing was written.
  pub part : MessagesPart (c.whole.says x (tree.state old)) before behind
  -- Whatever the answer, the call did only steps of the thing, by its intermediate states, and at most as many as it
  -- takes.
  pub acted : Acted tree (c.way x (tree.state old)) (c.steps x (tree.state old)) (c.whole.takes x (tree.state old)) now old new r
  -- Whatever the answer, its steps and messages together are such as the course allows for the thing cut short.
  pub went : HasGone tree (c.cut now (refused r) x (tree.state old)) now old new before behind
