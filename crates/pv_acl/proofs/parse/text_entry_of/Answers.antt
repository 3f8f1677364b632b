-- The parts of a text that is not empty stand between its colons.
use Rattle.std.proofs.Common.{◌≡◌, ◌==◌, ℕ, List, [], ◌∷◌, length, Bool, true, false, Option, Result, Ok, Err, sym, ap, ◌∙◌}
use Rattle.std.specs.List.{slice_split}
use Rattle.std.proofs.lemmas.Result.{err_from_is_err_and}
use Rattle.pv_acl.specs.declared.acl_fault.AclFault.{AclFault}
use Rattle.pv_acl.specs.declared.acl_fault.AclFault.TheVariants as fault
use Rattle.pv_acl.specs.declared.parse.PartEntry.{PartEntry}
use Rattle.pv_acl.specs.Entries.{Gives, part_entry_of, text_entry_of}
use Rattle.pv_path.proofs.Tests.{texts}
use Rattle.pv_acl.proofs.parse.text_entry_of.Goals as goal

gives_same : (r read : Result PartEntry AclFault) → r ≡ read → Gives r read
gives_same (Ok e) read same = sym same
gives_same (Err fault.EmptyEntry) read same = sym same
gives_same (Err fault.BadTag) read same = sym same
gives_same (Err fault.UnknownName) read same = sym same
gives_same (Err fault.BadPerm) read same = sym same
gives_same (Err fault.Memory) read same = tt

gives_parts : (uid gid : List ℕ → Option ℕ) (text : List ℕ) (r : Result PartEntry AclFault) (empty : Bool) → empty ≡ (length text == 0) → empty ≡ false
    → r ≡ part_entry_of uid gid (slice_split (λ c. c == 58) text) → Gives r (text_entry_of uid gid text)
gives_parts uid gid [] r empty is not same = let bad : true ≡ false = sym is ∙ not in cc
gives_parts uid gid (b ∷ bs) r empty is not same = gives_same r _ same

pub returns : goal.returns
returns g c =
    let uid = g.N.Names.uid_named c.args.names.now in
    let gid = g.N.Names.gid_named c.args.names.now in
    record {
      value =
          gives_parts uid gid c.args.text.now c.part_entry_of.result c.is_empty.result c.is_empty.ensures c.if-is_empty.false
          (c.part_entry_of.ensures.value ∙ ap (λ (ts : List (List ℕ)). part_entry_of uid gid ts) (ap texts c.as_slice.ensures.value ∙ c.in_ok-parts.ensures));
      allowed = c.part_entry_of.ensures.allowed;
    }

pub returns-in_err-parts : goal.returns-in_err-parts
returns-in_err-parts g c =
    let memory = err_from_is_err_and c.from_residual.result c.from_residual.ensures.1 in
    record { value = rw (memory.1, memory.2) tt; allowed = rw memory.1 tt }
