-- What a read takes comes after what the content has.
use Rattle.std.proofs.Common.{◌≡◌, ◌<◌, ◌≤◌, ◌+◌, ◌++◌, ◌⊎◌, ◌∙◌, ℕ, zero, suc, Bool, true, false, nat_lt, List, length, Option, None, Some, IfSome, Result, Err, IsErrOf, inl, inr, refl, sym, ap, subst, arith, length-append}
use Rattle.std.specs.Io.KnownBytes.{Consumes}
use Rattle.std.proofs.Math.Nat.{le_trans}
use Rattle.std.proofs.KnownBytes.{Consumes-trans, Consumes-whole}
use Rattle.std.proofs.lemmas.Bool.Decides.{nat_tests}
use Rattle.std.proofs.lemmas.Result.{err_from_is_err_and}
use Rattle.pv_io.specs.Faults.{HasRisen}
use Rattle.pv_io.specs.declared.transfer_fault.ReadAllFault.{ReadAllFault}
use Rattle.pv_io.specs.declared.transfer_fault.ReadAllFault.TheVariants.{ReadFault, TooLong, Memory}
use Rattle.pv_io.proofs.CountLaws.{CountsAtMost-call, CountsAtMost-within}
use Rattle.pv_io.proofs.whole_transfers.read_all.Goals as goal

-- the content after one more read is what was taken
taken_more : (a b d : Option (List ℕ)) (old new bs : List ℕ) → Consumes a b old → Consumes b d bs → new ≡ old ++ bs → Consumes a d new
taken_more a b d old new bs p q e = subst (Consumes a d) (sym e) (Consumes-trans a b d old bs p q)

length_more : (old new bs : List ℕ) (n : ℕ) → new ≡ old ++ bs → length bs ≡ n → length new ≡ length old + n
length_more old new bs n e size = ap length e ∙ (length-append old bs ∙ ap (λ k. length old + k) size)

-- what was taken is no longer than what was left
longer : (n : ℕ) (a b : Option (List ℕ)) (bs : List ℕ) → n < length bs → Consumes a b bs → IfSome a (λ xs. n < length xs)
longer n None b bs h p = tt
longer n (Some xs) None bs h p = absurd p
longer n (Some xs) (Some ys) bs h p = let size = ap length p ∙ length-append bs ys in omega (arith, h, size)

risen_since : (a b c : ℕ) → a ≤ b → HasRisen b c → HasRisen a c
risen_since a b c le (inl less) = inl (omega arith)
risen_since a b c le (inr last) = inr last

-- the fault that is answered is the fault of the read
same_fault : {T : Type 0} (r : Result T ReadAllFault) (e f : ReadAllFault) → r ≡ Err e → r ≡ Err f → e ≡ f
same_fault r e f p q = cc

-- a content that is too long was not read whole, by whatever fault
long_fault : {T : Type 0} (a : Option (List ℕ)) (P : List ℕ → Type 0) (Q : Type 0) (r : Result T ReadAllFault) (e : ReadAllFault) → r ≡ Err e → (e ≡ ReadFault → Q)
    → IfSome a (λ xs. P xs → IsErrOf r TooLong ⊎ (IsErrOf r Memory ⊎ Q))
long_fault None P Q r e is cause = tt
long_fault (Some xs) P Q r ReadFault is cause = λ _. inr (inr (cause refl))
long_fault (Some xs) P Q r TooLong is cause = λ _. inl is
long_fault (Some xs) P Q r Memory is cause = λ _. inr (inl is)

no_more : (m n most : ℕ) → m ≡ n + 0 → n ≤ most → most < m → ⊥
no_more m n most e le less = omega arith

exceeds : (b : Bool) (most n : ℕ) → b ≡ nat_lt most n → b ≡ true → most < n
exceeds b most n e h = grind (arith, nat_tests)

fits : (b : Bool) (most n : ℕ) → b ≡ nat_lt most n → b ≡ false → n ≤ most
fits b most n e h = grind (arith, nat_tests)

grown : (k m n count : ℕ) → k ≤ n → (count ≡ 0 → ⊥) → m ≡ n + count → k + 1 ≤ m
grown k m n zero le some e = absurd (some refl)
grown k m n (suc count) le some e = omega arith

pub returns-in_err-count-clause-too_long : goal.returns-in_err-count-clause-too_long
returns-in_err-count-clause-too_long g c h =
    let fault = err_from_is_err_and c.from_residual.result c.from_residual.ensures.1 in
    absurd (c.in_err-count.ensures.short (ap Err (same_fault c.from_residual.result c.in_err-count.field-0.0 TooLong (fault.1 ∙ ap Err fault.2) h)))

pub returns-in_err-count-clause-long : goal.returns-in_err-count-clause-long
returns-in_err-count-clause-long g c =
    let fault = err_from_is_err_and c.from_residual.result c.from_residual.ensures.1 in
    long_fault _ _ _ c.from_residual.result c.in_err-count.field-0.0 (fault.1 ∙ ap Err fault.2)
    (λ e. risen_since _ _ _ c.loop.invariant.faults (c.in_err-count.ensures.cause (ap Err e)))

pub returns-in_err-count-clause-cause : goal.returns-in_err-count-clause-cause
returns-in_err-count-clause-cause g c h =
    let fault = err_from_is_err_and c.from_residual.result c.from_residual.ensures.1 in
    risen_since _ _ _ c.loop.invariant.faults (c.in_err-count.ensures.cause (ap Err (same_fault c.from_residual.result c.in_err-count.field-0.0 ReadFault (fault.1 ∙ ap Err fault.2) h)))

pub returns-in_err-count-clause-never_falls : goal.returns-in_err-count-clause-never_falls
returns-in_err-count-clause-never_falls g c = le_trans c.loop.invariant.faults c.in_err-count.ensures.never_falls

pub returns-in_err-count-clause-prefix : goal.returns-in_err-count-clause-prefix
returns-in_err-count-clause-prefix g c =
    let more = c.in_err-count.ensures.prefix in
    (c.loop.content.items ++ more.0, Consumes-trans _ _ _ _ _ c.loop.invariant.taken more.1)

pub returns-in_err-count-clause-reads : goal.returns-in_err-count-clause-reads
returns-in_err-count-clause-reads g c =
    CountsAtMost-within c.loop.counter 67108865 _ _ _ c.loop-test.true c.loop.invariant.calls c.in_err-count.ensures.counted

pub returns-then-count-eq0-clause-ok : goal.returns-then-count-eq0-clause-ok
returns-then-count-eq0-clause-ok g c =
    let read = c.in_ok-count.ensures.ok in
    let content = c.read_piece.new.content.items in
    Consumes-whole _ _ content (λ xs. content ≡ xs) (taken_more _ _ _ _ content read.0 c.loop.invariant.taken read.2 read.3)
    (c.in_ok-count.ensures.end c.if-count-eq0.true) refl

pub returns-then-count-eq0-clause-long : goal.returns-then-count-eq0-clause-long
returns-then-count-eq0-clause-long g c =
    let read = c.in_ok-count.ensures.ok in
    let size = length_more _ _ _ _ read.3 (read.1 ∙ c.if-count-eq0.true) in
    let few = c.loop.invariant.few in
    let content = c.read_piece.new.content.items in
    Consumes-whole _ _ content _ (taken_more _ _ _ _ content read.0 c.loop.invariant.taken read.2 read.3) (c.in_ok-count.ensures.end c.if-count-eq0.true)
    (λ more. absurd (no_more _ _ 67108864 size few more))

pub returns-then-count-eq0-clause-prefix : goal.returns-then-count-eq0-clause-prefix
returns-then-count-eq0-clause-prefix g c =
    let read = c.in_ok-count.ensures.ok in
    (c.read_piece.new.content.items, taken_more _ _ _ _ _ read.0 c.loop.invariant.taken read.2 read.3)

pub returns-then-count-eq0-clause-never_falls : goal.returns-then-count-eq0-clause-never_falls
returns-then-count-eq0-clause-never_falls g c = le_trans c.loop.invariant.faults c.in_ok-count.ensures.never_falls

pub returns-then-count-eq0-clause-reads : goal.returns-then-count-eq0-clause-reads
returns-then-count-eq0-clause-reads g c =
    CountsAtMost-within c.loop.counter 67108865 _ _ _ c.loop-test.true c.loop.invariant.calls c.in_ok-count.ensures.counted

pub returns-then-is_too_long-clause-too_long : goal.returns-then-is_too_long-clause-too_long
returns-then-is_too_long-clause-too_long g c _ =
    let read = c.in_ok-count.ensures.ok in
    let content = c.read_piece.new.content.items in
    let test : c.is_too_long.result ≡ nat_lt 67108864 (length content) = rw (← c.deref.ensures.value) c.is_too_long.ensures in
    let more = exceeds _ 67108864 _ test c.if-is_too_long.true in
    longer 67108864 _ _ content more (taken_more _ _ _ _ content read.0 c.loop.invariant.taken read.2 read.3)

pub returns-then-is_too_long-clause-never_falls : goal.returns-then-is_too_long-clause-never_falls
returns-then-is_too_long-clause-never_falls g c = le_trans c.loop.invariant.faults c.in_ok-count.ensures.never_falls

pub returns-then-is_too_long-clause-prefix : goal.returns-then-is_too_long-clause-prefix
returns-then-is_too_long-clause-prefix g c =
    let read = c.in_ok-count.ensures.ok in
    (c.read_piece.new.content.items, taken_more _ _ _ _ _ read.0 c.loop.invariant.taken read.2 read.3)

pub returns-then-is_too_long-clause-reads : goal.returns-then-is_too_long-clause-reads
returns-then-is_too_long-clause-reads g c =
    CountsAtMost-within c.loop.counter 67108865 _ _ _ c.loop-test.true c.loop.invariant.calls c.in_ok-count.ensures.counted

pub loop-preserved : goal.loop-preserved
loop-preserved g c =
    let read = c.in_ok-count.ensures.ok in
    let size = length_more _ _ _ _ read.3 read.1 in
    let test : c.is_too_long.result ≡ nat_lt 67108864 (length c.read_piece.new.content.items) = rw (← c.deref.ensures.value) c.is_too_long.ensures in
    record {
      taken = taken_more _ _ _ _ _ read.0 c.loop.invariant.taken read.2 read.3;
      many = grown _ _ _ _ c.loop.invariant.many c.if-count-eq0.false size;
      few = fits _ 67108864 _ test c.if-is_too_long.false;
      faults = le_trans c.loop.invariant.faults c.in_ok-count.ensures.never_falls;
      calls = CountsAtMost-call c.loop.counter _ _ _ c.loop.invariant.calls c.in_ok-count.ensures.counted;
    }
