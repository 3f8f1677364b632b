use Rattle.std.proofs.Common.{◌≡◌, ◌++◌, ◌∙◌, length, rules}
use Rattle.pv_glob.proofs.Loops.{mapping_end, mapping_start, mapping_step, whole_front}
use Rattle.pv_glob.proofs.words.lengthened.Goals as goal

pub loop-word-init : goal.loop-word-init
loop-word-init c = mapping_start (λ word. word ++ c.args.more.now) c.args.words c.deref_mut-word-items.result.now (search rules)

pub loop-word-preserved : goal.loop-word-preserved
loop-word-preserved c =
    mapping_step (λ word. word ++ c.args.more.now) c.args.words c.loop-word.word-items c.loop-word.word-index c.word-item.result c.append.new.word c.loop-word.invariant (search rules) (search rules) (search rules)

pub returns : goal.returns
returns c =
    let as_many = c.loop-word.invariant.as_many in
    let many : c.into_vec-words.result.len ≡ length c.loop-word.word-items = search rules in
    c.from_vec.ensures ∙ whole_front c.loop-word.word-items _ c.into_vec-words.result.len many ∙ mapping_end (λ word. word ++ c.args.more.now) c.args.words c.loop-word.word-items c.loop-word.word-index c.loop-word.invariant (search rules)
