use Rattle.std.proofs.lemmas.Result.{IfOk-from_err}
use Rattle.std.proofs.Common.{ℕ, List, [], ◌+◌, Bor, drop, get_or, sym, ap, ◌∙◌}
use Rattle.std.proofs.lemmas.List.{at_drop_more, at_drop_all}
use Rattle.pv_accounts.specs.Edits.{text_of, with_member}
use Rattle.pv_accounts.specs.Files.{lines_of}
use Rattle.pv_accounts.specs.Kinds.{test_of}
use Rattle.pv_sysusers.specs.Members.{pairs_of}
use Rattle.pv_sysusers.specs.Texts.{with_memberships}
use Rattle.pv_sysusers.proofs.members.with_any.Goals as goal

pub returns-in_err-text : goal.returns-in_err-text
returns-in_err-text c = IfOk-from_err c.from_residual.result _ c.from_residual.ensures.0

pub loop-member-preserved : goal.loop-member-preserved
loop-member-preserved c =
    let test = test_of c.args.kind in
    let i = c.loop-member.member-index in
    let d : Bor (List ℕ) × Bor (List ℕ) = (record { ref_ptr = (0, 0); now = [] }, record { ref_ptr = (0, 0); now = [] }) in
    let m : Bor (List ℕ) × Bor (List ℕ) = get_or c.args.members.now i d in
    ap (with_memberships test (pairs_of (drop (i + 1) c.args.members.now))) (c.in_ok-text.ensures.text ∙ ap (λ (text : List ℕ). text_of (with_member test m.0.now m.1.now (lines_of text))) c.deref.ensures.value)
    ∙ sym (at_drop_more (λ (ms : List (Bor (List ℕ) × Bor (List ℕ))). with_memberships test (pairs_of ms) c.loop-member.text.items) c.args.members.now i d c.loop-member-test.true)
    ∙ c.loop-member.invariant

pub returns : goal.returns
returns c =
    sym (at_drop_all (λ (ms : List (Bor (List ℕ) × Bor (List ℕ))). with_memberships (test_of c.args.kind) (pairs_of ms) c.loop-member.text.items) c.args.members.now c.loop-member.member-index c.loop-member-test.false)
    ∙ c.loop-member.invariant
