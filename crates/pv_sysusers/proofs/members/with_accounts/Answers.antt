use Rattle.std.proofs.Common.{◌≡◌, ℕ, Bool, true, false, ◌&&◌, List, [], ◌∷◌, ◌+◌, ◌<◌, Bor, Vec, Global, drop, get_or, length, map, sym, ap, ◌∙◌}
use Rattle.std.proofs.lemmas.List.{at_drop_more, at_drop_all}
use Rattle.pv_accounts.specs.Edits.{text_of, with_member}
use Rattle.pv_requests.specs.Names.{is_account_name}
use Rattle.pv_accounts.specs.Kinds.{test_of}
use Rattle.pv_sysusers.specs.Members.{AreLines, are_accounts, lines_held, pairs_of}
use Rattle.pv_sysusers.specs.Texts.{with_memberships}
use Rattle.pv_sysusers.proofs.MemberLaws.{file_held, file_lines}
use Rattle.std.proofs.lemmas.Result.{IfOk-from_err, IfOk-weaker}
use Rattle.pv_sysusers.proofs.members.with_accounts.Goals as goal

abbrev Member : Type 0
Member = Bor (List ℕ) × Bor (List ℕ)

first_of : (a b : Bool) → (a && b) ≡ true → a ≡ true
first_of true b both = cc
first_of false b both = both

rest_of : (a b : Bool) → (a && b) ≡ true → b ≡ true
rest_of true b both = both
rest_of false b both = cc

-- of members with names that users may have, the next one and those behind it
accounts_on : (ms : List Member) (i : ℕ) (d : Member) → i < length ms → are_accounts (drop i ms) ≡ true → (is_account_name (get_or ms i d).1.now ≡ true) × (are_accounts (drop (i + 1) ms) ≡ true)
accounts_on ms i d below all =
    let both : (is_account_name (get_or ms i d).1.now && are_accounts (drop (i + 1) ms)) ≡ true = sym (at_drop_more are_accounts ms i d below) ∙ all in
    (first_of (is_account_name (get_or ms i d).1.now) (are_accounts (drop (i + 1) ms)) both, rest_of (is_account_name (get_or ms i d).1.now) (are_accounts (drop (i + 1) ms)) both)

-- the members that are left, once the next one is added
members_on : (test : List (List ℕ) → Bool) (ms : List Member) (i : ℕ) (d : Member) (old new : List (List ℕ)) (all : List ℕ) → i < length ms → AreLines old → new ≡ with_member test (get_or ms i d).0.now (get_or ms i d).1.now old
    → with_memberships test (pairs_of (drop i ms)) (text_of old) ≡ all → with_memberships test (pairs_of (drop (i + 1) ms)) (text_of new) ≡ all
members_on test ms i d old new all below whole is left =
    ap (λ (ls : List (List ℕ)). with_memberships test (pairs_of (drop (i + 1) ms)) (text_of ls)) (is ∙ ap (with_member test (get_or ms i d).0.now (get_or ms i d).1.now) (sym whole))
    ∙ sym (at_drop_more (λ (ns : List Member). with_memberships test (pairs_of ns) (text_of old)) ms i d below) ∙ left

pub loop-member-init : goal.loop-member-init
loop-member-init c =
    record {
      left = file_held (test_of c.args.kind) (pairs_of c.args.members.now) c.args.file.now (lines_held c.in_ok-held.held) c.in_ok-held.ensures.lines;
      placed = c.in_ok-held.ensures.placed;
      whole = file_lines c.args.file.now (lines_held c.in_ok-held.held) c.in_ok-held.ensures.lines;
      accounts = c.requires.accounts;
    }

pub returns-in_err-held : goal.returns-in_err-held
returns-in_err-held c = IfOk-from_err c.from_residual.result _ c.from_residual.ensures.0

pub returns-in_err-add : goal.returns-in_err-add
returns-in_err-add c = IfOk-from_err c.from_residual-in_err-add.result _ c.from_residual-in_err-add.ensures.0

pub add-requires-clause-account : goal.add-requires-clause-account
add-requires-clause-account c =
    (accounts_on c.args.members.now c.loop-member.member-index (record { ref_ptr = (0, 0); now = [] }, record { ref_ptr = (0, 0); now = [] }) c.loop-member-test.true c.loop-member.invariant.accounts).0

pub loop-member-preserved : goal.loop-member-preserved
loop-member-preserved c =
    let i = c.loop-member.member-index in
    let d : Member = (record { ref_ptr = (0, 0); now = [] }, record { ref_ptr = (0, 0); now = [] }) in
    record {
      left = members_on (test_of c.args.kind) c.args.members.now i d (lines_held c.loop-member.held) (lines_held c.add.new.self) _ c.loop-member-test.true c.loop-member.invariant.whole c.in_ok-add.ensures.lines c.loop-member.invariant.left;
      placed = c.in_ok-add.ensures.placed;
      whole = c.in_ok-add.ensures.whole;
      accounts = (accounts_on c.args.members.now i d c.loop-member-test.true c.loop-member.invariant.accounts).1;
    }

pub returns : goal.returns
returns c =
    IfOk-weaker c.joined.result _ _
    (λ text e. e ∙ ap (λ (ls : List (Vec ℕ Global)). text_of (map (λ line. line.items) ls)) c.deref.ensures.value
    ∙ sym (at_drop_all (λ (ns : List Member). with_memberships (test_of c.args.kind) (pairs_of ns) (text_of (lines_held c.loop-member.held))) c.args.members.now c.loop-member.member-index c.loop-member-test.false)
    ∙ c.loop-member.invariant.left) c.joined.ensures
