use Rattle.std.proofs.Common.{[], ◌+◌, map, drop, length, ap, rules}
use Rattle.std.proofs.lemmas.List.{drop_all, drop_more}
use Rattle.std.proofs.lemmas.Result.{err_from_is_err_and}
use Rattle.pv_glob.proofs.PatternLaws.{gives_fault, plains_end, plains_refused, plains_start, plains_step}
use Rattle.pv_glob.proofs.parse.pattern_with.Goals as goal

pub loop-component-init : goal.loop-component-init
loop-component-init c = plains_start c.in_ok-pattern.pattern (map (λ s. s.now) c.args.components.now) (search rules)

pub returns-in_err-words : goal.returns-in_err-words
returns-in_err-words c =
    let p = err_from_is_err_and c.from_residual-in_err-words.result c.from_residual-in_err-words.ensures.1 in
    let i = c.loop-component.component-index in
    let all = c.args.components.now in
    let parts = ap (map (λ s. s.now)) (drop_more all i (record { ref_ptr = (0, 0); now = [] }) c.loop-component-test.true) in
    rw (p.1, p.2) (gives_fault c.in_err-words.field-0.0 _ _ c.in_err-words.ensures.value
    (λ read. plains_refused c.loop-component.pattern (length c.plains.result.now) _ (map (λ s. s.now) (drop i all)) (map (λ s. s.now) (drop (i + 1) all)) (map (λ s. s.now) all) c.in_err-words.field-0.0
    parts c.loop-component.invariant (search rules) (ap length c.plains.ensures.value) read))

pub loop-component-preserved : goal.loop-component-preserved
loop-component-preserved c =
    let i = c.loop-component.component-index in
    let all = c.args.components.now in
    let parts = ap (map (λ s. s.now)) (drop_more all i (record { ref_ptr = (0, 0); now = [] }) c.loop-component-test.true) in
    plains_step c.loop-component.pattern c.in_ok-pattern-2.pattern (length c.plains.result.now) c.in_ok-words.words _ (map (λ s. s.now) (drop i all)) (map (λ s. s.now) (drop (i + 1) all)) _
    (ap length c.plains.ensures.value) c.in_ok-words.ensures.value (search rules) parts c.loop-component.invariant

pub returns : goal.returns
returns c =
    let i = c.loop-component.component-index in
    let all = c.args.components.now in
    plains_end c.loop-component.pattern (map (λ s. s.now) (drop i all)) (map (λ s. s.now) all) (ap (map (λ s. s.now)) (drop_all i all c.loop-component-test.false)) c.loop-component.invariant (search rules)
