use Rattle.std.proofs.Common.{map, string_bytes}
use Rattle.std.proofs.KnownBytes.{Appends-nil}
use Rattle.pv_words.specs.Invocation.{parse_args}
use Rattle.provision_run.proofs.WrittenLaws.{front_written, generated_front, generated_nothing, generated_wholly, own_unfolded}
use Rattle.provision_run.proofs.AnswerLaws.{own_not_read, own_not_written}
use Rattle.provision_run.proofs.top.provision.Goals as goal

pub returns-in-Ok-write_all_of-clause-read_fault : goal.returns-in-Ok-write_all_of-clause-read_fault
returns-in-Ok-write_all_of-clause-read_fault g c = λ e. absurd (own_not_read _ c.in-Ok.ensures.own e)

pub returns-in-Ok-write_all_of-clause-write_fault : goal.returns-in-Ok-write_all_of-clause-write_fault
returns-in-Ok-write_all_of-clause-write_fault g c = λ e. absurd (own_not_written _ c.in-Ok.ensures.own e)

pub returns-in-Err-clause-written : goal.returns-in-Err-clause-written
returns-in-Err-clause-written g c =
    front_written (map string_bytes c.args.words.now) c.args.clock_micros (g.S.Source.left c.args.source.now) c.in-Ok.answer.outcome c.in-Ok.answer.output.items c.deref.result.now _ _ c.deref.ensures.value c.in-Ok.ensures.output c.in-Err.ensures.prefix

pub returns-in-Err-clause-generated : goal.returns-in-Err-clause-generated
returns-in-Err-clause-generated g c = λ seed count e.
    generated_front (parse_args (map string_bytes c.args.words.now)) seed count e c.in-Ok.answer.outcome c.in-Ok.answer.output.items c.deref.result.now _ _ c.deref.ensures.value c.in-Ok.ensures.generated c.in-Err.ensures.prefix

pub returns-in-Ok-write_all_of-clause-generated : goal.returns-in-Ok-write_all_of-clause-generated
returns-in-Ok-write_all_of-clause-generated g c = λ seed count e.
    generated_wholly (parse_args (map string_bytes c.args.words.now)) seed count e c.in-Ok.answer.outcome c.in-Ok.answer.output.items c.deref.result.now _ _ c.deref.ensures.value c.in-Ok.ensures.generated c.in-Ok-write_all_of.ensures.ok

pub returns-in-Err-Memory-clause-generated : goal.returns-in-Err-Memory-clause-generated
returns-in-Err-Memory-clause-generated g c = λ seed count e. generated_nothing seed count _ _ (Appends-nil (g.K.Sink.written c.args.sink.now))

pub returns-in-Ok-write_all_of-clause-unfolded : goal.returns-in-Ok-write_all_of-clause-unfolded
returns-in-Ok-write_all_of-clause-unfolded g c = own_unfolded c.in-Ok.answer.outcome c.in-Ok.ensures.own
