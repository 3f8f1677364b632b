-- What the line of a field makes of the ACL of the mode is spelt by the field.
use Rattle.std.proofs.Common.{◌≡◌, ◌≢◌, true, false, ℕ, List, Bool, Option, None, Some, Result, Ok, Err, IfOk, IfSome, IfNone, codes, refl, sym, ◌∙◌}
use Rattle.std.specs.Result.{result_ok}
use Rattle.std.specs.Str.{bytes_eq}
use Rattle.std.proofs.lemmas.Slice.Eq.{bytes_eq-Decides}
use Rattle.pv_acl.specs.declared.line.AclLine.{AclLine}
use Rattle.pv_acl.specs.declared.line.How.TheVariants.{Add}
use Rattle.pv_acl.specs.declared.part.Acl.{Acl}
use Rattle.pv_acl.specs.Applying.{acl_after, is_line}
use Rattle.pv_acl.specs.Entries.{acl_line_of}
use Rattle.pv_acl.specs.Parts.{acl_of_mode, is_acl}
use Rattle.pv_acl.specs.Spelling.{IsSpelt, decimal_id}
use Rattle.pv_acl.specs.Texts.{acl_text}
use Rattle.pv_acl.proofs.Spelt.{found_is, none_is, nothing_is, no_dash, is_acl-of_mode}
use Rattle.pv_acl.proofs.read.read_acl.Goals as goal

found_by : {E : Type 0} (field : List ℕ) (mode : ℕ) (directory : Bool) (plain : Acl) (line : AclLine) (r : Result (Option Acl) E) → plain ≡ acl_of_mode mode → Some line ≡ result_ok (acl_line_of decimal_id decimal_id field) → field ≢ codes "-"
    → IfOk r (λ read. IfSome read (λ acl. acl ≡ acl_after plain line Add directory)) → IfOk r (λ read. IfSome read (λ acl. bytes_eq (acl_text acl) field ≡ true)) → IfOk r (λ read. IfSome read (λ acl. is_acl acl ≡ true))
    → IfOk r (λ read. IfSome read (λ acl. IsSpelt field mode directory acl))
found_by field mode directory plain line (Err e) p read other made text allowed = tt
found_by field mode directory plain line (Ok None) p read other made text allowed = tt
found_by field mode directory plain line (Ok (Some acl)) p read other made text allowed =
    found_is field mode directory acl plain line p made read ((bytes_eq-Decides (acl_text acl) field).0 text) allowed other

none_by : {E : Type 0} (field : List ℕ) (mode : ℕ) (directory : Bool) (plain : Acl) (line : AclLine) (r : Result (Option Acl) E) → plain ≡ acl_of_mode mode → Some line ≡ result_ok (acl_line_of decimal_id decimal_id field) → field ≢ codes "-"
    → IfOk r (λ read. IfNone read (bytes_eq (acl_text (acl_after plain line Add directory)) field ≡ false))
    → IfOk r (λ read. IfNone read ((acl : Acl) → IsSpelt field mode directory acl → ⊥))
none_by field mode directory plain line (Err e) p read other differs = tt
none_by field mode directory plain line (Ok (Some acl)) p read other differs = tt
none_by field mode directory plain line (Ok None) p read other differs =
    none_is field mode directory (acl_after plain line Add directory) plain line p refl read differs other

pub returns-in-None-clause-none : goal.returns-in-None-clause-none
returns-in-None-clause-none c =
    nothing_is c.args.field.now c.args.mode c.args.directory (sym c.in-None.is ∙ c.in_ok-line.ensures.read)
    (no_dash c.args.field.now c.as_slice.result.now c.eq.result c.as_slice.ensures c.eq.ensures c.if-eq.false)

pub returns-in-Some-clause-found : goal.returns-in-Some-clause-found
returns-in-Some-clause-found c =
    let plain : is_acl c.of_mode-in-Some.result ≡ true = rw c.of_mode-in-Some.ensures (is_acl-of_mode c.args.mode) in
    let line : is_line c.in-Some.line ≡ true = rw c.in-Some.is at c.in_ok-line.ensures.allowed in
    found_by c.args.field.now c.args.mode c.args.directory c.of_mode-in-Some.result c.in-Some.line c.acl_by.result c.of_mode-in-Some.ensures (sym c.in-Some.is ∙ c.in_ok-line.ensures.read)
    (no_dash c.args.field.now c.as_slice.result.now c.eq.result c.as_slice.ensures c.eq.ensures c.if-eq.false)
    c.acl_by.ensures.made c.acl_by.ensures.text (c.acl_by.ensures.allowed plain line)

pub returns-in-Some-clause-none : goal.returns-in-Some-clause-none
returns-in-Some-clause-none c =
    none_by c.args.field.now c.args.mode c.args.directory c.of_mode-in-Some.result c.in-Some.line c.acl_by.result c.of_mode-in-Some.ensures (sym c.in-Some.is ∙ c.in_ok-line.ensures.read)
    (no_dash c.args.field.now c.as_slice.result.now c.eq.result c.as_slice.ensures c.eq.ensures c.if-eq.false)
    c.acl_by.ensures.none
