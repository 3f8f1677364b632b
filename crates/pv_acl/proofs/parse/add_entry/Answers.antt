-- A line with one more entry is allowed where the entry is.
use Rattle.std.proofs.Common.{◌≡◌, List, [], ◌∷◌, ◌++◌, true, false, Result, Ok, Err, refl, ap, ◌∙◌}
use Rattle.std.specs.List.{list_all}
use Rattle.std.proofs.lemmas.Bool.{and_parts}
use Rattle.std.proofs.lemmas.List.Folds.{list_all-append}
use Rattle.std.proofs.lemmas.Result.{err_from_is_err_and}
use Rattle.pv_acl.specs.declared.acl_fault.AclFault.{AclFault}
use Rattle.pv_acl.specs.declared.line.AclLine.{AclLine}
use Rattle.pv_acl.specs.declared.line.Entry.{Entry}
use Rattle.pv_acl.specs.declared.parse.PartEntry.{PartEntry}
use Rattle.pv_acl.specs.Applying.{is_entry}
use Rattle.pv_acl.specs.Entries.{added}
use Rattle.pv_acl.proofs.parse.add_entry.Goals as goal

added_access : (line : AclLine) (read : Result PartEntry AclFault) (e : PartEntry) (new : List Entry) → read ≡ Ok e → e.of_default ≡ false → new ≡ line.access ++ e.entry ∷ []
    → added line read ≡ Ok (record line { access = new })
added_access line read e new is of more = rw (is, of, more) refl

added_default : (line : AclLine) (read : Result PartEntry AclFault) (e : PartEntry) (new : List Entry) → read ≡ Ok e → e.of_default ≡ true → new ≡ line.default_part ++ e.entry ∷ []
    → added line read ≡ Ok (record line { default_part = new })
added_default line read e new is of more = rw (is, of, more) refl

one_allowed : (es new : List Entry) (e : Entry) → new ≡ es ++ e ∷ [] → list_all is_entry es ≡ true → is_entry e ≡ true → list_all is_entry new ≡ true
one_allowed es new e more all one = rw (more, list_all-append is_entry es (e ∷ []), all, one) refl

pub returns : goal.returns
returns g c = record {
  ok = added_access c.args.line.now _ c.in_ok-entry.entry c.push-2.new.self c.in_ok-entry.ensures.value c.if-entry.false c.in_ok-push-2.ensures.ok;
  err = tt;
  allowed = λ h.
      let parts = and_parts (list_all is_entry c.args.line.now.access) (list_all is_entry c.args.line.now.default_part) h in
      rw (one_allowed c.args.line.now.access c.push-2.new.self c.in_ok-entry.entry.entry c.in_ok-push-2.ensures.ok parts.0 c.in_ok-entry.ensures.allowed) parts.1;
}

pub returns-then-entry : goal.returns-then-entry
returns-then-entry g c = record {
  ok = added_default c.args.line.now _ c.in_ok-entry.entry c.push.new.self c.in_ok-entry.ensures.value c.if-entry.true c.in_ok-push.ensures.ok;
  err = tt;
  allowed = λ h.
      let parts = and_parts (list_all is_entry c.args.line.now.access) (list_all is_entry c.args.line.now.default_part) h in
      rw (parts.0, one_allowed c.args.line.now.default_part c.push.new.self c.in_ok-entry.entry.entry c.in_ok-push.ensures.ok parts.1 c.in_ok-entry.ensures.allowed) refl;
}

pub returns-in_err-entry : goal.returns-in_err-entry
returns-in_err-entry g c =
    let fault = err_from_is_err_and c.from_residual.result c.from_residual.ensures.1 in
    record { ok = rw fault.1 tt; err = rw (fault.1 ∙ ap Err fault.2) c.in_err-entry.ensures.value; allowed = λ _. rw fault.1 tt }
