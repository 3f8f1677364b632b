use Rattle.std.proofs.Common.{◌≡◌, ◌+◌, ◌∷◌, ℕ, List, [], get_or, length, Option, arith, rules, subst, sym, ap, ◌∙◌, false, true, refl, below_more}
use Rattle.std.specs.Prelude.{IsNone, IfSome}
use Rattle.std.proofs.lemmas.List.{get_or_append_left, get_or_push, length_push}
use Rattle.pv_glob.specs.declared.element.Element.{Element}
use Rattle.pv_glob.specs.Meeting.{met_at, shares}
use Rattle.pv_glob.specs.Words.{IsFirst, word_cmp}
use Rattle.pv_glob.proofs.Reaches.{no_room, none_met, apart_met, first_met}
use Rattle.pv_glob.proofs.meeting.meet_plain.Goals as goal
use Rattle.pv_glob.proofs.meeting.meet_plain.Goals.{then-not-has_room-via-then-not-has_room, then-not-has_room-via-else-not-has_room+then-some_apart}

pub returns-then-not-has_room-clause-none : goal.returns-then-not-has_room-clause-none
returns-then-not-has_room-clause-none c = λ _.
    let a = c.args.a.now in let b = c.args.b.now in
    elim c.then-not-has_room.branch [
      | then-not-has_room-via-then-not-has_room w ↦ no_room a c.args.a_below b c.args.b_below (sym c.has_room.ensures ∙ (let e : c.has_room.result ≡ false = search rules in e))
      | then-not-has_room-via-else-not-has_room+then-some_apart w ↦ (
          let k = w.some_apart.ensures w.if-some_apart.true in
          apart_met a c.args.a_below b c.args.b_below k.0 k.1 k.2 k.3)
    ]

pub returns-in-None-clause-none : goal.returns-in-None-clause-none
returns-in-None-clause-none c = λ _.
    let a = c.args.a.now in let b = c.args.b.now in let i = c.loop-i.i in
    let none = subst (λ (o : Option (List ℕ)). IsNone o → (name : List ℕ) → shares c.component_at-left.result.now c.component_at-right.result.now name ≡ false) c.in-None.is c.in_ok-name.ensures.none in
    none_met a c.args.a_below b c.args.b_below i (search rules)
    (λ name. ap (λ (x : List Element). shares x (met_at b a i) name) (sym c.component_at-left.ensures)
    ∙ ap (λ (x : List Element). shares c.component_at-left.result.now x name) (sym c.component_at-right.ensures) ∙ none refl name)

pub loop-i-preserved : goal.loop-i-preserved
loop-i-preserved c =
    let a = c.args.a.now in let b = c.args.b.now in let i = c.loop-i.i in
    let path = c.loop-i.path in
    let inv = c.loop-i.invariant in
    let pushed = c.in_ok-push-in-Some.ensures.ok in
    let first = subst (λ (o : Option (List ℕ)). IfSome o (IsFirst word_cmp (shares c.component_at-left.result.now c.component_at-right.result.now))) c.in-Some.is c.in_ok-name.ensures.first in
    let here : IsFirst word_cmp (shares (met_at a b i) (met_at b a i)) c.in-Some.name =
    subst (λ (x : List Element). IsFirst word_cmp (shares x (met_at b a i)) c.in-Some.name) c.component_at-left.ensures
    (subst (λ (x : List Element). IsFirst word_cmp (shares c.component_at-left.result.now x) c.in-Some.name) c.component_at-right.ensures first) in
    record {
      count = ap length pushed ∙ length_push path c.in-Some.name ∙ ap (λ n. n + 1) inv.count;
      firsts = below_more _ _
          (λ k l. subst (λ (x : List ℕ). IsFirst word_cmp (shares (met_at a b k) (met_at b a k)) x)
          (sym (ap (λ (x : List (List ℕ)). get_or x k []) pushed ∙ get_or_append_left path (c.in-Some.name ∷ []) [] k (let n = inv.count in omega (arith, l, n)))) (inv.firsts k l))
          (subst (λ (x : List ℕ). IsFirst word_cmp (shares (met_at a b i) (met_at b a i)) x)
          (sym (ap (λ (x : List (List ℕ)). get_or x i []) pushed ∙ get_or_push path c.in-Some.name [] i inv.count)) here);
    }

pub returns-clause-first : goal.returns-clause-first
returns-clause-first c =
    let a = c.args.a.now in let b = c.args.b.now in
    first_met a c.args.a_below b c.args.b_below c.loop-i.path (sym c.has_room.ensures ∙ (let e : c.has_room.result ≡ true = search rules in e))
    (let n = c.loop-i.invariant.count in search rules) (λ k l. c.loop-i.invariant.firsts k (search rules))
