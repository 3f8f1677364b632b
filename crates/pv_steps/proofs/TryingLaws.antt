-- Laws of steps tried one after the other: on the way, at the end, and as a call that goes by steps.
use Rattle.std.specs.Prelude.{◌≡◌, ◌≢◌, ℕ, ◌≤◌, List, [], ◌∷◌, ◌++◌, length, reverse, Result, Ok, Err, OnOk, OnErr, IsErrAnd}
use Rattle.std.specs.List.{AllByRecursion}
use Rattle.std.proofs.Common.{refl, sym, ap, subst, ◌∙◌, arith, append_assoc, length-append}
use Rattle.std.proofs.lemmas.List.{append-nil, reverse-append}
use Rattle.pv_steps.specs.declared.step.Step.{Step}
use Rattle.pv_steps.specs.declared.tree.Tree.{Ghosts}
use Rattle.pv_steps.specs.declared.tree.TreeFault.{TreeFault}
use Rattle.pv_steps.specs.declared.tree.TreeFault.TheVariants.{Failed, Memory}
use Rattle.pv_steps.specs.Trees.{Files}
use Rattle.pv_steps.specs.Steps.{StepFits, after}
use Rattle.pv_steps.specs.Runs.{after_all, Along}
use Rattle.pv_steps.specs.Counting.{refused, faults_after}
use Rattle.pv_steps.specs.Acting.{Tried, Acted}
use Rattle.pv_steps.specs.Trying.{CanAll, TriedAll}
use Rattle.pv_steps.proofs.RunLaws.{after_all-append}
use Rattle.pv_steps.proofs.ActingLaws.{Asks, Moves, well}

-- ---- lists done from their end

-- the last of a list is the first to be done
pub reverse-last : (front : List Step) (s : Step) → reverse (front ++ s ∷ []) ≡ s ∷ reverse front
reverse-last front s = reverse-append front (s ∷ [])

-- the first of a list is the last to be done
pub reverse-first : (s : Step) (back : List Step) → reverse (s ∷ back) ≡ reverse back ++ s ∷ []
reverse-first s back = reverse-append (s ∷ []) back

-- ---- steps tried on the way

-- a prefix of some steps is done, none was refused, and the rest may be asked for
pub record Trying {S : Type 0} (tree : Ghosts S) (steps left : List Step) (now : ℕ) (old new : S) : Type 0 where
  pub done : List Step
  pub parts : done ++ left ≡ steps
  pub state : tree.state new ≡ after_all (tree.state old) done now
  pub recorded : tree.steps new ≡ tree.steps old ++ done
  pub fits : AllByRecursion StepFits done
  pub reaches : tree.reaches old new
  pub counted : tree.faults new ≡ tree.faults old
  pub can : CanAll (tree.state new) left now

fits_more : (done : List Step) (s : Step) → AllByRecursion StepFits done → StepFits s → AllByRecursion StepFits (done ++ s ∷ [])
fits_more [] s h f = (f, tt)
fits_more (d ∷ done) s h f = (h.0, fits_more done s h.1 f)

module _ {S : Type 0} (tree : Ghosts S) (moves : Moves tree) where
  -- one step more is done
  pub trying_next : (steps left : List Step) (s : Step) (now : ℕ) (a b c : S) → Trying tree steps (s ∷ left) now a b → Tried tree s now b c well → Trying tree steps left now a c
  trying_next steps left s now a b c t last = record {
    done = t.done ++ s ∷ [];
    parts = append_assoc t.done (s ∷ []) left ∙ t.parts;
    state = last.state ∙ ap (λ u. after u s now) t.state ∙ sym (after_all-append (tree.state a) t.done (s ∷ []) now);
    recorded = last.recorded ∙ ap (λ h. h ++ s ∷ []) t.recorded ∙ append_assoc (tree.steps a) t.done (s ∷ []);
    fits = fits_more t.done s t.fits last.fits;
    reaches = moves.goes_on a b c t.reaches last.reaches;
    counted = last.counted ∙ t.counted;
    can = subst (λ u. CanAll u left now) (sym last.state) t.can.1;
  }

  -- one step is not done, and its fault is passed on by `?`
  pub trying_fault : (steps left : List Step) (s : Step) (now : ℕ) (a b c : S) → Trying tree steps (s ∷ left) now a b
      → (e : TreeFault) (q r : Result (Unit {0}) TreeFault) → q ≡ Err e → IsErrAnd r (λ y. y ≡ e) → Tried tree s now b c q → TriedAll tree steps now a c r
  trying_fault steps left s now a b c t e q r was given last =
      subst (TriedAll tree steps now a c) (sym (passed r given)) (fault (subst (Tried tree s now b c) was last))
    where
      passed : (v : Result (Unit {0}) TreeFault) → IsErrAnd v (λ y. y ≡ e) → v ≡ Err e
      passed (Ok x) h = absurd h
      passed (Err y) h = ap Err h

      fault : Tried tree s now b c (Err e) → TriedAll tree steps now a c (Err e)
      fault d = record {
        done = t.done;
        left = s ∷ left;
        parts = t.parts;
        state = d.kept ∙ t.state;
        recorded = d.unrecorded ∙ t.recorded;
        fits = t.fits;
        whole = tt;
        short = λ none. cc;
        reaches = moves.goes_on a b c t.reaches d.reaches;
        counted = d.counted ∙ ap (λ n. faults_after (refused {A = Unit {0}} (Err e)) n) t.counted;
        last = d.last;
      }

-- what all of them leave
pub tried_whole : {S : Type 0} (tree : Ghosts S) (steps : List Step) (now : ℕ) (a b : S) (r : Result (Unit {0}) TreeFault) → TriedAll tree steps now a b r → OnOk r (tree.state b ≡ after_all (tree.state a) steps now)
tried_whole tree steps now a b r t = by r t.whole
  where
    by : (v : Result (Unit {0}) TreeFault) → OnOk v (t.left ≡ []) → OnOk v (tree.state b ≡ after_all (tree.state a) steps now)
    by (Ok x) none = t.state ∙ ap (λ ss. after_all (tree.state a) ss now) (sym (append-nil t.done) ∙ sym (ap (λ l. t.done ++ l) none) ∙ t.parts)
    by (Err e) h = h

-- ---- steps tried one after the other are a call that goes by steps

-- steps that may be asked of a tree in a run: P holds of the tree at every moment, Q of each step
abbrev pub AllAsk : (Files → Type 0) → (Step → Type 0) → Files → List Step → ℕ → Type 0
AllAsk P Q t [] now = P t
AllAsk P Q t (s ∷ ss) now = Asks P Q t s now × AllAsk P Q (after t s now) ss now

module _ (P : Files → Type 0) (Q : Step → Type 0) (now : ℕ) where
  -- nothing is asked for, and one step after others
  pub ask_more : (t : Files) (ss : List Step) (s : Step) → AllAsk P Q t ss now → Asks P Q (after_all t ss now) s now → AllAsk P Q t (ss ++ s ∷ []) now
  ask_more t [] s h ask = (ask, ask.there (after t s now) refl)
  ask_more t (d ∷ ss) s h ask = (h.0, ask_more (after t d now) ss s h.1 ask)

  -- the first of a list that is done from its end
  pub ask_first : (t : Files) (s : Step) (back : List Step) → AllAsk P Q t (reverse back) now → Asks P Q (after_all t (reverse back) now) s now → AllAsk P Q t (reverse (s ∷ back)) now
  ask_first t s back h ask = subst (λ ss. AllAsk P Q t ss now) (sym (reverse-first s back)) (ask_more t (reverse back) s h ask)

  pub ask_can : (t : Files) (ss : List Step) → AllAsk P Q t ss now → CanAll t ss now
  ask_can t [] h = tt
  ask_can t (s ∷ ss) h = (h.0.can, ask_can (after t s now) ss h.1)

  ask_start : (t : Files) (ss : List Step) → AllAsk P Q t ss now → P t
  ask_start t [] h = h
  ask_start t (s ∷ ss) h = h.0.start

  ask_along : (t : Files) (done left : List Step) → AllByRecursion StepFits done → AllAsk P Q t (done ++ left) now → Along P t done now
  ask_along t [] left fits h = ask_start t left h
  ask_along t (s ∷ done) left fits h =
      (h.0.start, (record { can = h.0.can; fits = fits.0; busy = h.0.busy }, ask_along (after t s now) done left fits.1 h.1))

  ask_gives : (t : Files) (done left : List Step) → AllAsk P Q t (done ++ left) now → AllByRecursion Q done
  ask_gives t [] left h = tt
  ask_gives t (s ∷ done) left h = (h.0.gives, ask_gives (after t s now) done left h.1)

  module _ {S : Type 0} (tree : Ghosts S) (steps : List Step) (a b : S) where
    pub acted_all : (r : Result (Unit {0}) TreeFault) → TriedAll tree steps now a b r → AllAsk P Q (tree.state a) steps now → Acted tree P Q (length steps) now a b r
    acted_all r t ask =
        let parted = subst (λ ss. AllAsk P Q (tree.state a) ss now) (sym t.parts) ask in
        record {
          ran = record {
            steps = t.done;
            recorded = t.recorded;
            reached = t.state;
            along = ask_along (tree.state a) t.done t.left t.fits parted;
            gives = ask_gives (tree.state a) t.done t.left parted;
          };
          bound =
              let stated = ap length t.recorded ∙ length-append (tree.steps a) t.done in
              let all = sym (ap length t.parts) ∙ length-append t.done t.left in
              let one = room r t.left t.short in
              omega (arith, stated, all, one);
          reaches = t.reaches;
          counted = t.counted;
          last = t.last;
        }
      where
        some : (left : List Step) → left ≢ [] → 1 ≤ length left
        some [] h = absurd (h refl)
        some (s ∷ left) h = omega arith

        -- the step that the tree refused is left
        room : (v : Result (Unit {0}) TreeFault) (left : List Step) → OnErr v (left ≢ []) → refused v ≤ length left
        room (Ok x) left h = omega arith
        room (Err Failed) left h = some left h
        room (Err Memory) left h = omega arith
