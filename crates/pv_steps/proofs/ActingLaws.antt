-- Laws of calls that go by steps: nothing asked, one step tried, one call after another, and what a call has said passed on.
use Rattle.std.specs.Prelude.{◌≡◌, ℕ, ◌+◌, ◌≤◌, List, [], ◌∷◌, ◌++◌, length, Result, Ok, Err, IsErrOf, IsErrAnd}
use Rattle.std.proofs.Common.{refl, sym, ap, ◌∙◌, arith, length-append}
use Rattle.pv_steps.specs.declared.step.Step.{Step}
use Rattle.pv_steps.specs.declared.tree.Tree.{Ghosts}
use Rattle.pv_steps.specs.declared.tree.TreeFault.{TreeFault}
use Rattle.pv_steps.specs.declared.tree.TreeFault.TheVariants.{Failed, Memory}
use Rattle.pv_steps.specs.Trees.{Files, places}
use Rattle.pv_steps.specs.Steps.{Can, after}
use Rattle.pv_steps.specs.Runs.{HasEffect, Ran}
use Rattle.pv_steps.specs.Counting.{refused, faults_after}
use Rattle.pv_steps.specs.Acting.{Tried, Acted, IsLast}
use Rattle.pv_steps.proofs.RunLaws.{ran_none, ran_one, ran_then, ran_weaken, ran_end}

-- the trait's laws of how calls move a tree: reflexive, composing, and the count of faults never falls
pub record Moves {S : Type 0} (tree : Ghosts S) : Type 0 where
  pub stays : (a : S) → tree.reaches a a
  pub goes_on : (a b c : S) → tree.reaches a b → tree.reaches b c → tree.reaches a c
  pub never_falls : (a b : S) → tree.reaches a b → tree.faults a ≤ tree.faults b

-- the steps recorded are never fewer
pub ran-length : (P : Files → Type 0) (Q : Step → Type 0) (now : ℕ) {t : Files} {h : List Step} {u : Files} {k : List Step} → Ran P Q now t h u k → length h ≤ length k
ran-length P Q now {h = h} r = omega (arith, ap length r.recorded, length-append h r.steps)

-- an answer that refuses nothing leaves a count of faults as it was
pub none_counted : {A : Type 0} (r : Result A TreeFault) → refused r ≡ 0 → (n : ℕ) → faults_after (refused r) n ≡ n
none_counted r none n = ap (λ k. faults_after k n) none

-- nor does one that is never Failed
pub never_counted : {A : Type 0} (r : Result A TreeFault) → (IsErrOf r Failed → ⊥) → (n : ℕ) → n ≡ faults_after (refused r) n
never_counted (Ok x) h n = refl
never_counted (Err Failed) h n = absurd (h refl)
never_counted (Err Memory) h n = refl

-- nor does the answer that `?` makes of running out of memory
pub no_memory : {A : Type 0} (r : Result A TreeFault) → IsErrAnd r (λ e. e ≡ Memory) → refused r ≡ 0
no_memory (Ok x) h = absurd h
no_memory (Err Failed) h = cc
no_memory (Err Memory) h = refl

-- an answer that refuses nothing is not Failed
pub not_failed : {A : Type 0} (r : Result A TreeFault) → refused r ≡ 0 → IsErrOf r Failed → ⊥
not_failed (Ok x) none h = cc
not_failed (Err Failed) none h = cc
not_failed (Err Memory) none h = cc

-- an answer is Failed exactly if it refuses a step
pub failed_refuses : {A : Type 0} (r : Result A TreeFault) → IsErrOf r Failed → refused r ≡ 1
failed_refuses {A} r failed = ap (λ (v : Result A TreeFault). refused v) failed

pub refuses_failed : {A : Type 0} (r : Result A TreeFault) → refused r ≡ 1 → IsErrOf r Failed
refuses_failed (Ok x) one = cc
refuses_failed (Err Failed) one = refl
refuses_failed (Err Memory) one = cc

-- the answer of a call that goes well and has nothing to give
abbrev pub well : Result (Unit {0}) TreeFault
well = Ok tt

-- a step that may be asked of a tree in a run: P holds of the tree before it and after it, Q of the step
pub record Asks (P : Files → Type 0) (Q : Step → Type 0) (t : Files) (s : Step) (now : ℕ) : Type 0 where
  pub start : P t
  pub can : Can (places t) s
  pub busy : HasEffect t s now
  pub there : (u : Files) → u ≡ after t s now → P u
  pub gives : Q s

module _ {S : Type 0} (tree : Ghosts S) where
  -- nothing was asked for
  pub acted_none : {A : Type 0} → Moves tree → (P : Files → Type 0) (Q : Step → Type 0) (most now : ℕ) (a : S) (r : Result A TreeFault)
      → refused r ≡ 0 → P (tree.state a) → Acted tree P Q most now a a r
  acted_none moves P Q most now a r none p = record {
    ran = ran_none P Q now (tree.state a) (tree.steps a) (tree.state a) (tree.steps a) p refl refl;
    bound = omega (arith, none);
    reaches = moves.stays a;
    counted = sym (none_counted r none (tree.faults a));
    last = λ h. absurd (not_failed r none h);
  }

  -- one step was tried
  pub acted_tried : (P : Files → Type 0) (Q : Step → Type 0) (s : Step) (now : ℕ) (a b : S) (r : Result (Unit {0}) TreeFault)
      → Tried tree s now a b r → Asks P Q (tree.state a) s now → Acted tree P Q 1 now a b r
  acted_tried P Q s now a b r done asks = by r done
    where
      same : {v : Result (Unit {0}) TreeFault} → tree.state b ≡ tree.state a → tree.steps b ≡ tree.steps a → refused v ≤ 1
          → tree.reaches a b → tree.faults b ≡ faults_after (refused v) (tree.faults a) → IsLast tree b v → Acted tree P Q 1 now a b v
      same kept unrecorded one reaches counted last = record {
        ran = ran_none P Q now (tree.state a) (tree.steps a) (tree.state b) (tree.steps b) asks.start kept unrecorded;
        bound = let e : length (tree.steps b) ≡ length (tree.steps a) = ap length unrecorded in omega (arith, e, one);
        reaches = reaches;
        counted = counted;
        last = last;
      }

      by : (v : Result (Unit {0}) TreeFault) → Tried tree s now a b v → Acted tree P Q 1 now a b v
      by (Ok x) d = record {
        ran = ran_one P Q now (tree.state a) (tree.steps a) s (tree.state b) (tree.steps b) asks.start (record { can = asks.can; fits = d.fits; busy = asks.busy }) (asks.there (tree.state b) d.state) asks.gives d.state d.recorded;
        bound = let e : length (tree.steps b) ≡ length (tree.steps a ++ s ∷ []) = ap length d.recorded in omega (arith, e, length-append (tree.steps a) (s ∷ []));
        reaches = d.reaches;
        counted = d.counted;
        last = d.last;
      }
      by (Err Failed) d = same d.kept d.unrecorded (omega arith) d.reaches d.counted d.last
      by (Err Memory) d = same d.kept d.unrecorded (omega arith) d.reaches d.counted d.last

  -- one call after another that went well
  pub acted_then : {A B : Type 0} → Moves tree → (P : Files → Type 0) (Q : Step → Type 0) {m n now : ℕ} {a b c : S} {x : A} {r : Result B TreeFault}
      → Acted tree P Q m now a b (Ok x) → Acted tree P Q n now b c r → Acted tree P Q (m + n) now a c r
  acted_then moves P Q {m} {n} {now} {a} {b} {c} {x} {r} first last = record {
    ran = ran_then P Q now first.ran last.ran;
    bound =
        let before = ran-length P Q now first.ran in
        let behind = ran-length P Q now last.ran in
        omega (arith, before, behind, first.bound, last.bound);
    reaches = moves.goes_on a b c first.reaches last.reaches;
    counted = last.counted ∙ ap (λ n. faults_after (refused r) n) first.counted;
    last = last.last;
  }

  -- what follows from P at each moment and from Q of each step, within a greater bound
  pub acted_weaken : {A : Type 0} (P P' : Files → Type 0) (Q Q' : Step → Type 0) (m n : ℕ) → ((u : Files) → P u → P' u) → ((s : Step) → Q s → Q' s) → m ≤ n
      → {now : ℕ} {a b : S} {r : Result A TreeFault} → Acted tree P Q m now a b r → Acted tree P' Q' n now a b r
  acted_weaken P P' Q Q' m n f g le {now} acted = record {
    ran = ran_weaken P P' Q Q' now f g acted.ran;
    bound = omega (arith, le, acted.bound);
    reaches = acted.reaches;
    counted = acted.counted;
    last = acted.last;
  }

  -- within a greater bound
  pub acted_within : {A : Type 0} {P : Files → Type 0} {Q : Step → Type 0} (m n : ℕ) → m ≤ n
      → {now : ℕ} {a b : S} {r : Result A TreeFault} → Acted tree P Q m now a b r → Acted tree P Q n now a b r
  acted_within m n le acted = record { ran = acted.ran; bound = omega (arith, le, acted.bound); reaches = acted.reaches; counted = acted.counted; last = acted.last }

  -- the fault of a call is passed on by `?`
  pub acted_passed : {A B : Type 0} {P : Files → Type 0} {Q : Step → Type 0} {most now : ℕ} {a b : S} {e : TreeFault} (q : Result A TreeFault) (r : Result B TreeFault)
      → q ≡ Err e → IsErrAnd r (λ y. y ≡ e) → Acted tree P Q most now a b q → Acted tree P Q most now a b r
  acted_passed {A} {B} {a = a} {e = e} q r was given acted =
      record {
        ran = acted.ran;
        bound = omega (arith, same, acted.bound);
        reaches = acted.reaches;
        counted = acted.counted ∙ ap (λ k. faults_after k (tree.faults a)) (sym same);
        last = λ failed. acted.last (refuses_failed q (sym same ∙ failed_refuses r failed));
      }
    where
      passed : (v : Result B TreeFault) → IsErrAnd v (λ y. y ≡ e) → v ≡ Err e
      passed (Ok x) h = absurd h
      passed (Err y) h = ap Err h

      is : r ≡ Err e
      is = passed r given

      either : (f : TreeFault) → ◌≡◌ {A = ℕ} (refused {A = B} (Err f)) (refused {A = A} (Err f))
      either Failed = refl
      either Memory = refl

      same : refused r ≡ refused q
      same = ap (λ (v : Result B TreeFault). refused v) is ∙ either e ∙ sym (ap (λ (v : Result A TreeFault). refused v) was)

  -- the answer of a call that went well gives way to one that refuses nothing
  pub acted_ended : {A B : Type 0} {P : Files → Type 0} {Q : Step → Type 0} {most now : ℕ} {a b : S} {x : A} (r : Result B TreeFault)
      → refused r ≡ 0 → Acted tree P Q most now a b (Ok x) → Acted tree P Q most now a b r
  acted_ended {a = a} r none acted =
      record {
        ran = acted.ran;
        bound = omega (arith, none, acted.bound);
        reaches = acted.reaches;
        counted = acted.counted ∙ sym (none_counted r none (tree.faults a));
        last = λ h. absurd (not_failed r none h);
      }

  -- P holds after the call
  pub acted_end : {A : Type 0} (P : Files → Type 0) (Q : Step → Type 0) {most now : ℕ} {a b : S} {r : Result A TreeFault} → Acted tree P Q most now a b r → P (tree.state b)
  acted_end P Q {most} {now} acted = ran_end P Q now acted.ran
