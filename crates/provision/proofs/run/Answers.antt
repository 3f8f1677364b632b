use Rattle.std.proofs.Common.{List, ℕ, ap, drop, map, string_bytes, subst, ◌∙◌}
use Rattle.std.specs.Process.{exit_status}
use Rattle.pv_io.specs.Faults.{HasRisen}
use Rattle.provision.specs.Ended.{IsStatusOf}
use Rattle.provision.proofs.run.Goals as goal

pub returns-clause-status : goal.returns-clause-status
returns-clause-status g c =
    subst (λ (words : List (List ℕ)). IsStatusOf words c.args.clock_micros (g.S.Source.left c.args.source.now)
    (g.K.Sink.written c.args.sink.now) (g.K.Sink.written c.provision_all-outcome.new.sink)
    (record { content = g.H.Host.content c.args.host.now; changes = g.H.Host.changes c.args.host.now; faults = g.H.Host.faults c.args.host.now })
    (record { content = g.H.Host.content c.provision_all-outcome.new.host; changes = g.H.Host.changes c.provision_all-outcome.new.host; faults = g.H.Host.faults c.provision_all-outcome.new.host })
    (HasRisen (g.S.Source.faults c.args.source.now) (g.S.Source.faults c.provision_all-outcome.new.source))
    (HasRisen (g.K.Sink.faults c.args.sink.now) (g.K.Sink.faults c.provision_all-outcome.new.sink))
    (HasRisen (g.H.Host.faults c.args.host.now) (g.H.Host.faults c.provision_all-outcome.new.host)) (exit_status c.from.result))
    (ap (map string_bytes) c.words_of.ensures)
    (record {
      outcome = c.provision_all-outcome.result;
      status_is = c.from.ensures ∙ c.status.ensures;
      written = c.provision_all-outcome.ensures.written;
      on_folder = c.provision_all-outcome.ensures.on_folder;
      usage = c.provision_all-outcome.ensures.usage;
      known = c.provision_all-outcome.ensures.known;
      generated = c.provision_all-outcome.ensures.generated;
      rooted = c.provision_all-outcome.ensures.rooted;
      read_fault = c.provision_all-outcome.ensures.read_fault;
      write_fault = c.provision_all-outcome.ensures.write_fault;
      folder_failed = c.provision_all-outcome.ensures.folder_failed;
    })
