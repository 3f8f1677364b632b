use Rattle.std.proofs.Common.{◌≡◌, ◌∙◌, ℕ, ◌<◌, List, [], false, length, get_or, Contains, None, subst, sym, ap, arith}
use Rattle.std.specs.Prelude.{IfOk}
use Rattle.pv_path.specs.Paths.{Path}
use Rattle.pv_glob.specs.declared.meeting.Reach.{Reach}
use Rattle.pv_overlap.specs.declared.pair.Pair.{Pair}
use Rattle.pv_overlap.specs.Answers.{IsAnswered, IsReported}
use Rattle.pv_overlap.specs.Heads.{related}
use Rattle.pv_overlap.specs.Subjects.{heads_of, MayAnswer}
use Rattle.pv_overlap.proofs.AnswerLaws.{apart_none, heads_length}
use Rattle.pv_overlap.proofs.reach_asker.pairs_of.Goals as goal

pub pairs_by-requires-clause-heads : goal.pairs_by-requires-clause-heads
pairs_by-requires-clause-heads c = c.in_ok-heads.ensures ∙ ap (λ (m : List Reach × ℕ). heads_of m.0) (sym c.in_ok-asker.ensures)

pub pairs_by-requires-clause-unrelated : goal.pairs_by-requires-clause-unrelated
pairs_by-requires-clause-unrelated c = λ i j l m e.
    let is : c.in_ok-heads.heads ≡ heads_of c.args.reaches.now = c.in_ok-heads.ensures in
    let long : length c.in_ok-heads.heads ≡ length c.args.reaches.now = ap length is ∙ heads_length c.args.reaches.now in
    subst (λ (a : List Reach × ℕ). MayAnswer a.0 a.1 i j None) (sym c.in_ok-asker.ensures)
    (apart_none c.args.reaches.now c.args.lines i j l (omega (arith, m, long)) (subst (λ (hs : List Path). related (get_or hs i []) (get_or hs j []) ≡ false) is e))

pub returns-clause-listed : goal.returns-clause-listed
returns-clause-listed c =
    let is : c.in_ok-heads.heads ≡ heads_of c.args.reaches.now = c.in_ok-heads.ensures in
    subst (λ (a : List Reach × ℕ). IfOk c.pairs_by.result (λ pairs. (pair : Pair) → Contains pairs pair → IsAnswered (MayAnswer a.0 a.1) (length c.args.reaches.now) pair)) c.in_ok-asker.ensures
    (subst (λ (n : ℕ). IfOk c.pairs_by.result (λ pairs. (pair : Pair) → Contains pairs pair → IsAnswered (MayAnswer c.in_ok-asker.asker.0 c.in_ok-asker.asker.1) n pair)) (ap length is ∙ heads_length c.args.reaches.now) c.pairs_by.ensures.listed)

pub returns-clause-all : goal.returns-clause-all
returns-clause-all c =
    let is : c.in_ok-heads.heads ≡ heads_of c.args.reaches.now = c.in_ok-heads.ensures in
    subst (λ (a : List Reach × ℕ). IfOk c.pairs_by.result (λ pairs. (i j : ℕ) → i < j → j < length c.args.reaches.now → IsReported (MayAnswer a.0 a.1) pairs i j)) c.in_ok-asker.ensures
    (subst (λ (n : ℕ). IfOk c.pairs_by.result (λ pairs. (i j : ℕ) → i < j → j < n → IsReported (MayAnswer c.in_ok-asker.asker.0 c.in_ok-asker.asker.1) pairs i j)) (ap length is ∙ heads_length c.args.reaches.now) c.pairs_by.ensures.all)
