use Rattle.std.proofs.Common.{◌≡◌, ℕ, List, Option, rules, subst, sym, ap, ◌∙◌, false}
use Rattle.std.specs.Prelude.{IsNone, IfSome}
use Rattle.pv_path.specs.Names.{is_name}
use Rattle.pv_glob.specs.Meeting.{shares}
use Rattle.pv_glob.specs.Pairs.{is_shared}
use Rattle.pv_glob.specs.Words.{IsFirst, word_cmp}
use Rattle.pv_glob.proofs.Shared.{shared_name, no_name, too_long, first_short}
use Rattle.pv_glob.proofs.meeting.searched_name.Goals as goal

pub of-requires : goal.of-requires
of-requires c =
    let a = c.args.a.now in let b = c.args.b.now in
    let first = subst (λ (o : Option (List ℕ)). IfSome o (IsFirst word_cmp (is_shared a b))) c.in-Some.is c.in_ok-word.ensures.first in
    ap is_name c.as_slice.ensures ∙ shared_name a b c.in-Some.word first.passes (search rules)

pub returns-then-len-le255-clause-first : goal.returns-then-len-le255-clause-first
returns-then-len-le255-clause-first c =
    let a = c.args.a.now in let b = c.args.b.now in
    let first = subst (λ (o : Option (List ℕ)). IfSome o (IsFirst word_cmp (is_shared a b))) c.in-Some.is c.in_ok-word.ensures.first in
    subst (λ (w : List ℕ). IsFirst word_cmp (shares a b) w) (sym (c.in_ok-of-in-Some.ensures ∙ c.as_slice.ensures)) (first_short a b c.in-Some.word first (search rules))

pub returns-in-Some-clause-none : goal.returns-in-Some-clause-none
returns-in-Some-clause-none c = λ _.
    let a = c.args.a.now in let b = c.args.b.now in
    let first = subst (λ (o : Option (List ℕ)). IfSome o (IsFirst word_cmp (is_shared a b))) c.in-Some.is c.in_ok-word.ensures.first in
    too_long a b c.in-Some.word first (search rules)

pub returns-clause-none : goal.returns-clause-none
returns-clause-none c = λ _.
    let a = c.args.a.now in let b = c.args.b.now in
    let none = subst (λ (o : Option (List ℕ)). IsNone o → (word : List ℕ) → is_shared a b word ≡ false) c.in-None.is c.in_ok-word.ensures.none in
    no_name a b (none (search rules))
