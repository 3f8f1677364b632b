-- Laws of what is done one after the other: what holds when some is done, when one thing is cut short, and when all is
-- done.
use Rattle.std.specs.Prelude.{◌≡◌, ℕ, ◌+◌, ◌≤◌, Bool, true, false, ◌||◌, List, [], ◌∷◌, ◌++◌, length, take, drop, Result, Ok}
use Rattle.std.proofs.Common.{zero, refl, sym, ap, subst, ◌∙◌, inl, inr, arith, append-nil, length-append}
use Rattle.std.proofs.lemmas.List.{append_assoc, append_cancel_left, drop_all}
use Rattle.std.proofs.Math.Bool.{or-false}
use Rattle.std.proofs.Math.Seq.{take-length}
use Rattle.pv_steps.specs.declared.step.Step.{Step}
use Rattle.pv_steps.specs.declared.tree.Tree.{Ghosts}
use Rattle.pv_steps.specs.declared.tree.TreeFault.{TreeFault}
use Rattle.pv_steps.specs.Trees.{Files}
use Rattle.pv_steps.specs.Acting.{refused as refused_of, Acted}
use Rattle.pv_steps.specs.Runs.{after_all}
use Rattle.pv_steps.proofs.ActingLaws.{Moves, well, acted_none, acted_then, acted_weaken, acted_within, acted_ended}
use Rattle.pv_steps.proofs.RunLaws.{after_all-append}
use Rattle.pv_text.specs.GivenMessages.{MessagesPart}
use Rattle.pv_text.proofs.MessagesLaws.{messages_first, messages_then, messages_whole}
use Rattle.pv_steps.specs.Doing.{after_each, messages_for_each, one_is_refused, taken_by_each}
use Rattle.pv_steps.specs.Courses.{AtWork, Course, Cut, HasGone, Partway, IsStepOfSome}

-- ---- what is left of a list

pub none_left : {A : Type 0} (all : List A) (i : ℕ) → length all ≤ i → drop i all ≡ []
none_left all i h = drop_all i all h

-- ---- parts of what is said

-- a part of what is said of one, after all that is said of those before it
part_messages : (all before one rest old mid new : List (List ℕ)) → all ≡ before ++ (one ++ rest) → mid ≡ old ++ before → MessagesPart one mid new → MessagesPart all old new
part_messages all before one rest old mid new whole new_messages part =
    subst (λ (x : List (List ℕ)). MessagesPart x old new) (sym whole) (messages_then before (one ++ rest) old mid new new_messages (messages_first one rest mid new part))

-- nothing is said
pub part_none : (all old : List (List ℕ)) → MessagesPart all old old
part_none all old = (zero, sym (append-nil old))

-- ---- one thing that was cut short

module _ {A : Type 0} (c : Course A) where
  -- it is only at work
  abbrev pub IsSingle : Type 0
  IsSingle = (now refused : ℕ) (x : A) (t : Files) (done : List Step) (new_messages : List (List ℕ)) → AtWork c.whole c.way c.steps now refused x t done new_messages → c.cut now refused x t done new_messages

  module _ (alone : IsSingle) (now : ℕ) (x : A) (t : Files) (start : c.way x t t) where
    -- nothing is done or said
    pub single_start : c.cut now 0 x t [] []
    single_start = alone now 0 x t [] [] (record { along = start; own = tt; within = omega arith; front = (0, refl) })

    -- there is nothing to be done, and all is said
    pub single_told : c.cut now 0 x t [] (c.whole.says x t)
    single_told =
        alone now 0 x t [] (c.whole.says x t) (record { along = start; own = tt; within = omega arith; front = (length (c.whole.says x t), sym (take-length (c.whole.says x t))) })

  -- what a call has done by its steps, and has said
  pub single_gone : IsSingle → {S B : Type 0} (tree : Ghosts S) (x : A) (now : ℕ) (a b : S) (old new : List (List ℕ)) {r : Result B TreeFault} → MessagesPart (c.whole.says x (tree.state a)) old new
      → Acted tree (c.way x (tree.state a)) (c.steps x (tree.state a)) (c.whole.takes x (tree.state a)) now a b r → HasGone tree (c.cut now (refused_of r) x (tree.state a)) now a b old new
  single_gone alone tree x now a b old new {r} part acted = record {
    steps = acted.ran.steps;
    texts = take part.0 (c.whole.says x (tree.state a));
    recorded = acted.ran.recorded;
    reached = acted.ran.reached;
    new_messages = part.1;
    is = alone now (refused_of r) x (tree.state a) acted.ran.steps (take part.0 (c.whole.says x (tree.state a))) (record {
      along = acted.ran.along;
      own = acted.ran.gives;
      within =
          let count = ap length acted.ran.recorded in
          let both = length-append (tree.steps a) acted.ran.steps in
          omega (arith, count, both, acted.bound);
      front = (part.0, refl);
    });
  }

  -- several, of which nothing is done
  pub cut_start : (now : ℕ) → ((x : A) (t : Files) → c.cut now 0 x t [] []) → (xs : List A) (t : Files) → Cut c now 0 xs t [] []
  cut_start now begun [] t = (refl, refl, refl)
  cut_start now begun (x ∷ xs) t = inl (begun x t)

-- ---- some is done

-- nothing done is on the way
pub partway_start : {A : Type 0} (c : Course A) → ((x : A) (t : Files) → c.way x t t) → (xs : List A) (t : Files) → Partway c xs t t
partway_start c start [] t = λ q plain. refl
partway_start c start (x ∷ xs) t = inl (start x t)

or_assoc : (a b c : Bool) → (a || (b || c)) ≡ ((a || b) || c)
or_assoc true b c = refl
or_assoc false b c = refl

-- from one tree, after which all are to be done, to another, after which these are left; whether one was refused so far,
-- and what is said
pub record Going {A S : Type 0} (c : Course A) (tree : Ghosts S) (all left : List A) (now : ℕ) (refused : Bool) (a b : S) (old new : List (List ℕ)) : Type 0 where
  pub whole : after_each c.whole all (tree.state a) ≡ after_each c.whole left (tree.state b)
  pub before : List (List ℕ)
  pub new_messages : new ≡ old ++ before
  pub to_say : messages_for_each c.whole all (tree.state a) ≡ before ++ messages_for_each c.whole left (tree.state b)
  pub refusals : one_is_refused c.whole all (tree.state a) ≡ (refused || one_is_refused c.whole left (tree.state b))
  pub further : (u : Files) → Partway c left (tree.state b) u → Partway c all (tree.state a) u
  pub of_all : (s : Step) → IsStepOfSome c left (tree.state b) s → IsStepOfSome c all (tree.state a) s
  pub taken : ℕ
  pub acted : Acted tree (Partway c all (tree.state a)) (IsStepOfSome c all (tree.state a)) taken now a b well
  pub room : taken + taken_by_each c.whole left (tree.state b) ≤ taken_by_each c.whole all (tree.state a)
  pub done : List Step
  pub recorded : tree.steps b ≡ tree.steps a ++ done
  pub reached : tree.state b ≡ after_all (tree.state a) done now
  pub cutting : (n : ℕ) (steps : List Step) (texts : List (List ℕ)) → Cut c now n left (tree.state b) steps texts
      → Cut c now n all (tree.state a) (done ++ steps) (before ++ texts)

module _ {A S : Type 0} (c : Course A) (tree : Ghosts S) (moves : Moves tree) (start : (x : A) (t : Files) → c.way x t t) (all : List A) (now : ℕ) (a : S) (old : List (List ℕ)) where
  pub going_start : Going c tree all all now false a a old old
  going_start = record {
    whole = refl;
    before = [];
    new_messages = sym (append-nil old);
    to_say = refl;
    refusals = refl;
    further = λ u way. way;
    of_all = λ s e. e;
    taken = 0;
    acted = acted_none tree moves (Partway c all (tree.state a)) (IsStepOfSome c all (tree.state a)) 0 now a well refl (partway_start c start all (tree.state a));
    room = omega arith;
    done = [];
    recorded = sym (append-nil (tree.steps a));
    reached = refl;
    cutting = λ n steps texts cut. cut;
  }

  -- ---- one more

  module _ (left : List A) (x : A) (refused : Bool) (b : S) (new : List (List ℕ)) (going : Going c tree all (x ∷ left) now refused a b old new) where
    -- whatever its answer
    pub one_acted : {B : Type 0} {d : S} {r : Result B TreeFault} → Acted tree (c.way x (tree.state b)) (c.steps x (tree.state b)) (c.whole.takes x (tree.state b)) now b d r
        → Acted tree (Partway c all (tree.state a)) (IsStepOfSome c all (tree.state a)) (going.taken + c.whole.takes x (tree.state b)) now a d r
    one_acted one =
        acted_then tree moves (Partway c all (tree.state a)) (IsStepOfSome c all (tree.state a)) going.acted
        (acted_weaken tree (c.way x (tree.state b)) (Partway c all (tree.state a)) (c.steps x (tree.state b)) (IsStepOfSome c all (tree.state a))
        (c.whole.takes x (tree.state b)) (c.whole.takes x (tree.state b)) (λ w way. going.further w (inl way)) (λ s e. going.of_all s (inl e)) (omega arith) one)

    -- within the bound of all
    pub one_within : {B : Type 0} {d : S} {r : Result B TreeFault} → Acted tree (c.way x (tree.state b)) (c.steps x (tree.state b)) (c.whole.takes x (tree.state b)) now b d r
        → Acted tree (Partway c all (tree.state a)) (IsStepOfSome c all (tree.state a)) (taken_by_each c.whole all (tree.state a)) now a d r
    one_within one =
        let room : going.taken + (c.whole.takes x (tree.state b) + taken_by_each c.whole left (c.whole.after x (tree.state b))) ≤ taken_by_each c.whole all (tree.state a) = going.room in
        acted_within tree (going.taken + c.whole.takes x (tree.state b)) (taken_by_each c.whole all (tree.state a)) (omega (arith, room)) (one_acted one)

    pub one_part : (new_messages : List (List ℕ)) → MessagesPart (c.whole.says x (tree.state b)) new new_messages → MessagesPart (messages_for_each c.whole all (tree.state a)) old new_messages
    one_part new_messages part =
        part_messages (messages_for_each c.whole all (tree.state a)) going.before (c.whole.says x (tree.state b)) (messages_for_each c.whole left (c.whole.after x (tree.state b))) old new new_messages going.to_say going.new_messages part

    -- what it and all before it have done and said
    pub one_gone : (n : ℕ) (d : S) (new_messages : List (List ℕ)) → HasGone tree (c.cut now n x (tree.state b)) now b d new new_messages → HasGone tree (Cut c now n all (tree.state a)) now a d old new_messages
    one_gone n d new_messages one = record {
      steps = going.done ++ one.steps;
      texts = going.before ++ one.texts;
      recorded = one.recorded ∙ ap (λ v. v ++ one.steps) going.recorded ∙ append_assoc (tree.steps a) going.done one.steps;
      reached = one.reached ∙ ap (λ v. after_all v one.steps now) going.reached ∙ sym (after_all-append (tree.state a) going.done one.steps now);
      new_messages = one.new_messages ∙ ap (λ v. v ++ one.texts) going.new_messages ∙ append_assoc old going.before one.texts;
      is = going.cutting n one.steps one.texts (inl one.is);
    }

    -- when it is done
    pub going_next : {B : Type 0} (d : S) {y : B} (new_messages : List (List ℕ)) → tree.state d ≡ c.whole.after x (tree.state b) → new_messages ≡ new ++ c.whole.says x (tree.state b)
        → Acted tree (c.way x (tree.state b)) (c.steps x (tree.state b)) (c.whole.takes x (tree.state b)) now b d (Ok y)
        → HasGone tree (c.cut now 0 x (tree.state b)) now b d new new_messages
        → Going c tree all left now (refused || c.whole.is_refused x (tree.state b)) a d old new_messages
    going_next d new_messages done is one gone = record {
      whole = going.whole ∙ ap (after_each c.whole left) (sym done);
      before = going.before ++ c.whole.says x (tree.state b);
      new_messages = is ∙ ap (λ v. v ++ c.whole.says x (tree.state b)) going.new_messages ∙ append_assoc old going.before (c.whole.says x (tree.state b));
      to_say =
          going.to_say ∙ sym (append_assoc going.before (c.whole.says x (tree.state b)) (messages_for_each c.whole left (c.whole.after x (tree.state b))))
          ∙ ap (λ v. (going.before ++ c.whole.says x (tree.state b)) ++ messages_for_each c.whole left v) (sym done);
      refusals =
          going.refusals ∙ or_assoc refused (c.whole.is_refused x (tree.state b)) (one_is_refused c.whole left (c.whole.after x (tree.state b)))
          ∙ ap (λ v. (refused || c.whole.is_refused x (tree.state b)) || one_is_refused c.whole left v) (sym done);
      further = λ w way. going.further w (inr (subst (λ v. Partway c left v w) done way));
      of_all = λ s e. going.of_all s (inr (subst (λ v. IsStepOfSome c left v s) done e));
      taken = going.taken + c.whole.takes x (tree.state b);
      acted = acted_ended tree well refl (one_acted one);
      room =
          let room : going.taken + (c.whole.takes x (tree.state b) + taken_by_each c.whole left (c.whole.after x (tree.state b))) ≤ taken_by_each c.whole all (tree.state a) = going.room in
          let same : taken_by_each c.whole left (tree.state d) ≡ taken_by_each c.whole left (c.whole.after x (tree.state b)) = ap (taken_by_each c.whole left) done in
          omega (arith, room, same);
      done = going.done ++ gone.steps;
      recorded = gone.recorded ∙ ap (λ v. v ++ gone.steps) going.recorded ∙ append_assoc (tree.steps a) going.done gone.steps;
      reached = gone.reached ∙ ap (λ v. after_all v gone.steps now) going.reached ∙ sym (after_all-append (tree.state a) going.done gone.steps now);
      cutting = λ n steps texts cut.
          subst (λ v. Cut c now n all (tree.state a) v ((going.before ++ c.whole.says x (tree.state b)) ++ texts)) (sym (append_assoc going.done gone.steps steps))
          (subst (Cut c now n all (tree.state a) (going.done ++ (gone.steps ++ steps))) (sym (append_assoc going.before (c.whole.says x (tree.state b)) texts))
          (going.cutting n (gone.steps ++ steps) (c.whole.says x (tree.state b) ++ texts) (inr (record {
            own = gone.steps;
            more = steps;
            texts = texts;
            done = refl;
            stated = refl;
            first = subst (c.cut now 0 x (tree.state b) gone.steps) (append_cancel_left new gone.texts (c.whole.says x (tree.state b)) (sym gone.new_messages ∙ is)) gone.is;
            left = sym gone.reached ∙ done;
            later = subst (λ v. Cut c now n left v steps texts) done cut;
          }))));
    }

  -- ---- all is done

  module _ (refused : Bool) (b : S) (new : List (List ℕ)) (going : Going c tree all [] now refused a b old new) where
    pub end_whole : tree.state b ≡ after_each c.whole all (tree.state a)
    end_whole = sym going.whole

    pub end_messages : new ≡ old ++ messages_for_each c.whole all (tree.state a)
    end_messages = going.new_messages ∙ ap (λ v. old ++ v) (sym (going.to_say ∙ append-nil going.before))

    pub end_part : MessagesPart (messages_for_each c.whole all (tree.state a)) old new
    end_part = messages_whole (messages_for_each c.whole all (tree.state a)) old new end_messages

    pub end_refused : refused ≡ one_is_refused c.whole all (tree.state a)
    end_refused = sym (going.refusals ∙ or-false refused)

    pub end_acted : {B : Type 0} (r : Result B TreeFault) → refused_of r ≡ 0
        → Acted tree (Partway c all (tree.state a)) (IsStepOfSome c all (tree.state a)) (taken_by_each c.whole all (tree.state a)) now a b r
    end_acted r none =
        let room : going.taken + 0 ≤ taken_by_each c.whole all (tree.state a) = going.room in
        acted_within tree going.taken (taken_by_each c.whole all (tree.state a)) (omega (arith, room)) (acted_ended tree r none going.acted)

    pub end_gone : HasGone tree (Cut c now 0 all (tree.state a)) now a b old new
    end_gone = record {
      steps = going.done ++ [];
      texts = going.before ++ [];
      recorded = going.recorded ∙ ap (λ v. tree.steps a ++ v) (sym (append-nil going.done));
      reached = going.reached ∙ ap (λ v. after_all (tree.state a) v now) (sym (append-nil going.done));
      new_messages = going.new_messages ∙ ap (λ v. old ++ v) (sym (append-nil going.before));
      is = going.cutting 0 [] [] (refl, refl, refl);
    }
