-- Laws of what is carried out and told: before anything is done, by the answer of a call, and for several things, one after
-- the other.
use Rattle.std.specs.Prelude.{◌≡◌, ℕ, Bool, false, ◌||◌, List, [], ◌∷◌, ◌++◌, Result, Ok, Err, IsErrAnd}
use Rattle.std.proofs.Common.{refl, sym, ap, subst, ◌∙◌, append-nil}
use Rattle.pv_steps.specs.declared.tree.Tree.{Ghosts}
use Rattle.pv_steps.specs.declared.tree.TreeFault.{TreeFault}
use Rattle.pv_steps.specs.declared.tree.TreeFault.TheVariants.{Failed, Memory}
use Rattle.pv_steps.specs.Acting.{refused, Acted}
use Rattle.pv_steps.specs.Trees.{Files}
use Rattle.pv_steps.proofs.ActingLaws.{Moves, acted_none, acted_passed, no_memory}
use Rattle.pv_text.specs.GivenMessages.{MessagesPart}
use Rattle.pv_text.proofs.MessagesLaws.{messages_whole}
use Rattle.pv_steps.specs.Courses.{Course, each_of, carried_of, CarriesOut, HasGone}
use Rattle.pv_steps.specs.declared.carried.Carried.{Carried}
use Rattle.pv_steps.specs.declared.carried.Carried.TheVariants.{Whole}
use Rattle.pv_steps.proofs.CourseLaws.{Going, going_start, going_next, IsSingle, single_start, single_told, single_gone, one_gone, one_within, one_part, part_none, end_whole, end_messages, end_part, end_refused, end_acted, end_gone}

-- a fault that is passed on tells as many refused steps
pub refused_passed : {A B : Type 0} {e : TreeFault} (q : Result A TreeFault) (r : Result B TreeFault) → q ≡ Err e → IsErrAnd r (λ y. y ≡ e) → refused q ≡ refused r
refused_passed {A} {B} {e} q r was passed = ap (λ (v : Result A TreeFault). refused v) was ∙ either e ∙ ap (λ (v : Result B TreeFault). refused v) (sym (is r passed))
  where
    either : (f : TreeFault) → ◌≡◌ {A = ℕ} (refused {A = A} (Err f)) (refused {A = B} (Err f))
    either Failed = refl
    either Memory = refl

    is : (v : Result B TreeFault) → IsErrAnd v (λ y. y ≡ e) → v ≡ Err e
    is (Ok x) h = absurd h
    is (Err y) h = ap Err h

module _ {S A : Type 0} (tree : Ghosts S) (c : Course A) (x : A) (now : ℕ) (a : S) (old : List (List ℕ)) where
  -- no step was done
  unmoved : (new texts : List (List ℕ)) → new ≡ old ++ texts → c.cut now 0 x (tree.state a) [] texts → (n : ℕ) → n ≡ 0 → HasGone tree (c.cut now n x (tree.state a)) now a a old new
  unmoved new texts new_messages cut n none = record {
    steps = [];
    texts = texts;
    recorded = sym (append-nil (tree.steps a));
    reached = refl;
    new_messages = new_messages;
    is = subst (λ m. c.cut now m x (tree.state a) [] texts) (sym none) cut;
  }

  -- memory ran out before anything was done or said
  pub carried_none : Moves tree → c.way x (tree.state a) (tree.state a) → c.cut now 0 x (tree.state a) [] [] → (new : List (List ℕ)) → new ≡ old → (r : Result Carried TreeFault) → IsErrAnd r (λ e. e ≡ Memory)
      → CarriesOut tree c x now a a old new r
  carried_none moves start begun new messages_kept (Ok ended) memory = absurd memory
  carried_none moves start begun new messages_kept (Err e) memory = record {
    ok = tt;
    new_messages = tt;
    carried = tt;
    part = subst (MessagesPart (c.whole.says x (tree.state a)) old) (sym messages_kept) (part_none (c.whole.says x (tree.state a)) old);
    acted = acted_none tree moves (c.way x (tree.state a)) (c.steps x (tree.state a)) (c.whole.takes x (tree.state a)) now a (Err e) (no_memory {A = Carried} (Err e) memory) start;
    went = unmoved new [] (messages_kept ∙ sym (append-nil old)) begun (refused {A = Carried} (Err e)) (no_memory {A = Carried} (Err e) memory);
  }

  -- there is nothing to be done, and all is said
  pub carried_told : Moves tree → c.way x (tree.state a) (tree.state a) → c.cut now 0 x (tree.state a) [] (c.whole.says x (tree.state a)) → (new : List (List ℕ)) (ended : Carried) → tree.state a ≡ c.whole.after x (tree.state a) → new ≡ old ++ c.whole.says x (tree.state a)
      → ended ≡ carried_of (c.whole.is_refused x (tree.state a)) → CarriesOut tree c x now a a old new (Ok ended)
  carried_told moves start stated new ended done new_messages is = record {
    ok = done;
    new_messages = new_messages;
    carried = is;
    part = messages_whole (c.whole.says x (tree.state a)) old new new_messages;
    acted = acted_none tree moves (c.way x (tree.state a)) (c.steps x (tree.state a)) (c.whole.takes x (tree.state a)) now a (Ok ended) refl start;
    went = unmoved new (c.whole.says x (tree.state a)) new_messages stated 0 refl;
  }

  -- the fault of a call on the way is passed on
  pub carried_failed : {B : Type 0} (b : S) (new : List (List ℕ)) {e : TreeFault} (q : Result B TreeFault) (r : Result Carried TreeFault) → q ≡ Err e → IsErrAnd r (λ y. y ≡ e)
      → MessagesPart (c.whole.says x (tree.state a)) old new → Acted tree (c.way x (tree.state a)) (c.steps x (tree.state a)) (c.whole.takes x (tree.state a)) now a b q
      → HasGone tree (c.cut now (refused q) x (tree.state a)) now a b old new → CarriesOut tree c x now a b old new r
  carried_failed b new q (Ok ended) was passed part acted gone = absurd passed
  carried_failed b new q (Err y) was passed part acted gone = record {
    ok = tt;
    new_messages = tt;
    carried = tt;
    part = part;
    acted = acted_passed tree q (Err y) was passed acted;
    went = subst (λ n. HasGone tree (c.cut now n x (tree.state a)) now a b old new) (refused_passed {B = Carried} q (Err y) was passed) gone;
  }

  -- ---- the same of one thing

  module _ (alone : IsSingle c) where
    pub single_none : Moves tree → c.way x (tree.state a) (tree.state a) → (new : List (List ℕ)) → new ≡ old → (r : Result Carried TreeFault) → IsErrAnd r (λ e. e ≡ Memory) → CarriesOut tree c x now a a old new r
    single_none moves start new messages_kept r memory = carried_none moves start (single_start c alone now x (tree.state a) start) new messages_kept r memory

    pub single_messages : Moves tree → c.way x (tree.state a) (tree.state a) → (new : List (List ℕ)) (ended : Carried) → tree.state a ≡ c.whole.after x (tree.state a) → new ≡ old ++ c.whole.says x (tree.state a)
        → ended ≡ carried_of (c.whole.is_refused x (tree.state a)) → CarriesOut tree c x now a a old new (Ok ended)
    single_messages moves start new ended done new_messages is = carried_told moves start (single_told c alone now x (tree.state a) start) new ended done new_messages is

    pub single_failed : {B : Type 0} (b : S) (new : List (List ℕ)) {e : TreeFault} (q : Result B TreeFault) (r : Result Carried TreeFault) → q ≡ Err e → IsErrAnd r (λ y. y ≡ e)
        → MessagesPart (c.whole.says x (tree.state a)) old new → Acted tree (c.way x (tree.state a)) (c.steps x (tree.state a)) (c.whole.takes x (tree.state a)) now a b q
        → CarriesOut tree c x now a b old new r
    single_failed b new q r was passed part acted = carried_failed b new q r was passed part acted (single_gone c alone tree x now a b old new part acted)

-- ---- one after the other

-- all are to be carried out from one tree on, and these are left from another; how those before them ended
pub record Underway {S A : Type 0} (tree : Ghosts S) (c : Course A) (all left : List A) (now : ℕ) (carried : Carried) (a b : S) (old new : List (List ℕ)) : Type 0 where
  pub refused : Bool
  pub ended : carried ≡ carried_of refused
  pub going : Going c tree all left now refused a b old new

module _ {S A : Type 0} (tree : Ghosts S) (moves : Moves tree) (c : Course A) (start : (x : A) (t : Files) → c.way x t t) (all : List A) (now : ℕ) (a : S) (old : List (List ℕ)) where
  pub underway_start : Underway tree c all all now Whole a a old old
  underway_start = record { refused = false; ended = refl; going = going_start c tree moves start all now a old }

  -- ---- one more

  module _ (left rest : List A) (x : A) (next : left ≡ x ∷ rest) (carried : Carried) (b : S) (mid : List (List ℕ)) (under : Underway tree c all left now carried a b old mid) (d : S) (new : List (List ℕ)) where
    going : Going c tree all (x ∷ rest) now under.refused a b old mid
    going = subst (λ (xs : List A). Going c tree all xs now under.refused a b old mid) next under.going

    -- that failed
    pub underway_failed : {e : TreeFault} (q r : Result Carried TreeFault) → q ≡ Err e → IsErrAnd r (λ y. y ≡ e) → CarriesOut tree c x now b d mid new q → CarriesOut tree (each_of c) all now a d old new r
    underway_failed q r was passed one =
        carried_failed tree (each_of c) all now a old d new q r was passed
        (one_part c tree moves start all now a old rest x under.refused b mid going new one.part)
        (one_within c tree moves start all now a old rest x under.refused b mid going one.acted)
        (one_gone c tree moves start all now a old rest x under.refused b mid going (refused q) d new one.went)

    -- and that ended
    pub underway_next : (one ended : Carried) → CarriesOut tree c x now b d mid new (Ok one)
        → ((p q : Bool) → carried ≡ carried_of p → one ≡ carried_of q → ended ≡ carried_of (p || q)) → Underway tree c all rest now ended a d old new
    underway_next one ended done both = record {
      refused = under.refused || c.whole.is_refused x (tree.state b);
      ended = both under.refused (c.whole.is_refused x (tree.state b)) under.ended done.carried;
      going = going_next c tree moves start all now a old rest x under.refused b mid going d new done.ok done.new_messages done.acted done.went;
    }

  -- ---- all are carried out

  pub underway_end : (left : List A) → left ≡ [] → (carried : Carried) (b : S) (new : List (List ℕ)) → Underway tree c all left now carried a b old new → CarriesOut tree (each_of c) all now a b old new (Ok carried)
  underway_end left none carried b new under = record {
    ok = end_whole c tree moves start all now a old under.refused b new gone;
    new_messages = end_messages c tree moves start all now a old under.refused b new gone;
    carried = under.ended ∙ ap carried_of (end_refused c tree moves start all now a old under.refused b new gone);
    part = end_part c tree moves start all now a old under.refused b new gone;
    acted = end_acted c tree moves start all now a old under.refused b new gone (Ok carried) refl;
    went = end_gone c tree moves start all now a old under.refused b new gone;
  }
    where
      gone : Going c tree all [] now under.refused a b old new
      gone = subst (λ (xs : List A). Going c tree all xs now under.refused a b old new) none under.going
