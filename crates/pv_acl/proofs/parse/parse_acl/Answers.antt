use Rattle.std.proofs.Common.{ℕ, List, Result, Err, ap, ◌∙◌, map}
use Rattle.std.proofs.lemmas.Result.{err_from_is_err_and}
use Rattle.pv_acl.specs.declared.acl_fault.AclFault.{AclFault}
use Rattle.pv_acl.specs.declared.parse.PartEntry.{PartEntry}
use Rattle.pv_acl.specs.Entries.{text_entry_of, line_of}
use Rattle.pv_acl.proofs.Lines.{entries_kept, entries_fault}
use Rattle.pv_path.proofs.Tests.{texts}
use Rattle.pv_acl.proofs.parse.parse_acl.Goals as goal

pub returns-in_err-add_entry-clause-reads : goal.returns-in_err-add_entry-clause-reads
returns-in_err-add_entry-clause-reads g c =
    let f : List ℕ → Result PartEntry AclFault = text_entry_of (g.N.Names.uid_named c.args.names.now) (g.N.Names.gid_named c.args.names.now) in
    let p = err_from_is_err_and c.from_residual-in_err-add_entry.result c.from_residual-in_err-add_entry.ensures.1 in
    entries_fault f c.in_err-add_entry.field-0.0 c.from_residual-in_err-add_entry.result c.loop-text.line c.deref-text-items.result.now c.loop-text.text-index _ _
    (p.1 ∙ ap Err p.2) c.in_err-add_entry.ensures.err c.loop-text-test.true
    (c.loop-text.invariant.read ∙ ap (λ (ts : List (List ℕ)). line_of (map f ts)) (ap texts c.deref-text-items.ensures.value ∙ c.in_ok-texts.ensures))

pub loop-text-preserved : goal.loop-text-preserved
loop-text-preserved g c =
    let f : List ℕ → Result PartEntry AclFault = text_entry_of (g.N.Names.uid_named c.args.names.now) (g.N.Names.gid_named c.args.names.now) in
    record {
      read =
          entries_kept f c.loop-text.line c.add_entry.new.line c.deref-text-items.result.now c.loop-text.text-index _ _ c.in_ok-add_entry.ensures.ok
          c.loop-text-test.true c.loop-text.invariant.read;
      allowed = c.in_ok-add_entry.ensures.allowed c.loop-text.invariant.allowed;
    }
