-- A line that is read entry by entry.
use Rattle.std.proofs.Common.{◌≡◌, ℕ, ◌+◌, ◌<◌, Bool, true, false, List, [], ◌∷◌, ◌++◌, length, get_or, drop, map, Result, Ok, Err, refl, sym, ap, ◌∙◌, append_assoc, Bor}
use Rattle.std.proofs.lemmas.List.{at_drop_more, length-map}
use Rattle.pv_acl.specs.declared.line.Entry.{Entry}
use Rattle.pv_acl.specs.declared.acl_fault.AclFault.{AclFault}
use Rattle.pv_acl.specs.declared.acl_fault.AclFault.TheVariants as fault
use Rattle.pv_acl.specs.declared.line.AclLine.{AclLine}
use Rattle.pv_acl.specs.declared.parse.PartEntry.{PartEntry}
use Rattle.pv_acl.specs.Entries.{with_first_entry, with_back, added, joined, line_of, Gives}
use Rattle.pv_path.proofs.Tests.{texts, get_or-texts}

-- a line, or a fault, and then the entries of a line, or their fault
abbrev pub then_line : Result AclLine AclFault → Result AclLine AclFault → Result AclLine AclFault
then_line (Err f) rest = Err f
then_line (Ok line) (Err f) = Err f
then_line (Ok line) (Ok rest) = Ok (record { access = line.access ++ rest.access; default_part = line.default_part ++ rest.default_part })

front_is_back : (line : AclLine) (b : Bool) (x : Entry) (rest : AclLine) → then_line (Ok line) (Ok (with_first_entry (record { of_default = b; entry = x }) rest)) ≡ then_line (Ok (with_back line (record { of_default = b; entry = x }))) (Ok rest)
front_is_back line true x rest =
    ap (λ (es : List Entry). Ok (record { access = line.access ++ rest.access; default_part = es })) (sym (append_assoc line.default_part (x ∷ []) rest.default_part))
front_is_back line false x rest =
    ap (λ (es : List Entry). Ok (record { access = es; default_part = line.default_part ++ rest.default_part })) (sym (append_assoc line.access (x ∷ []) rest.access))

-- an entry in front of a line is one at the end of the line before it
pub then_joined : (line : AclLine) (e : Result PartEntry AclFault) (rest : Result AclLine AclFault) → then_line (Ok line) (joined e rest) ≡ then_line (added line e) rest
then_joined line (Err f) rest = refl
then_joined line (Ok e) (Err f) = refl
then_joined line (Ok e) (Ok rest) = front_is_back line e.of_default e.entry rest

-- what the code has read so far, and what is left, is the whole
pub entries_more : (f : List ℕ → Result PartEntry AclFault) (line : AclLine) (pieces : List (Bor (List ℕ))) (i : ℕ) (d : Bor (List ℕ)) → i < length pieces
    → then_line (Ok line) (line_of (map f (drop i (texts pieces)))) ≡ then_line (added line (f (get_or pieces i d).now)) (line_of (map f (drop (i + 1) (texts pieces))))
entries_more f line pieces i d h =
    let here : get_or (texts pieces) i d.now ≡ (get_or pieces i d).now = get_or-texts pieces i d in
    let rest : Result AclLine AclFault = line_of (map f (drop (i + 1) (texts pieces))) in
    ap (λ (r : Result AclLine AclFault). then_line (Ok line) r) (at_drop_more (λ (ts : List (List ℕ)). line_of (map f ts)) (texts pieces) i d.now (simp length-map h))
    ∙ then_joined line (f (get_or (texts pieces) i d.now)) rest
    ∙ ap (λ (t : List ℕ). then_line (added line (f t)) rest) here

pub entries_kept : (f : List ℕ → Result PartEntry AclFault) (line new : AclLine) (pieces : List (Bor (List ℕ))) (i : ℕ) (d : Bor (List ℕ)) (whole : Result AclLine AclFault) → added line (f (get_or pieces i d).now) ≡ Ok new → i < length pieces
    → then_line (Ok line) (line_of (map f (drop i (texts pieces)))) ≡ whole → then_line (Ok new) (line_of (map f (drop (i + 1) (texts pieces)))) ≡ whole
entries_kept f line new pieces i d whole step h e =
    ap (λ (r : Result AclLine AclFault). then_line r (line_of (map f (drop (i + 1) (texts pieces))))) (sym step) ∙ sym (entries_more f line pieces i d h) ∙ e

-- a fault of an entry is the fault of the line
fault_stays : (fl : AclFault) (line : AclLine) (e : Result PartEntry AclFault) (rest : Result AclLine AclFault) → Gives (Err fl) e → Gives (Err fl) (then_line (added line e) rest)
fault_stays fault.EmptyEntry line e rest g = rw g
fault_stays fault.BadTag line e rest g = rw g
fault_stays fault.UnknownName line e rest g = rw g
fault_stays fault.BadPerm line e rest g = rw g
fault_stays fault.Memory line e rest g = tt

pub entries_fault : (f : List ℕ → Result PartEntry AclFault) (fl : AclFault) (r : Result AclLine AclFault) (line : AclLine) (pieces : List (Bor (List ℕ))) (i : ℕ) (d : Bor (List ℕ)) (whole : Result AclLine AclFault) → r ≡ Err fl → Gives (Err fl) (f (get_or pieces i d).now)
    → i < length pieces → then_line (Ok line) (line_of (map f (drop i (texts pieces)))) ≡ whole → Gives r whole
entries_fault f fl r line pieces i d whole is g h e =
    rw (is, ← e, entries_more f line pieces i d h) (fault_stays fl line (f (get_or pieces i d).now) (line_of (map f (drop (i + 1) (texts pieces)))) g)
