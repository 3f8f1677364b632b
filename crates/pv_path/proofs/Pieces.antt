-- How the pieces between the slashes make a path.
use Rattle.std.proofs.Common.{◌≡◌, ℕ, ◌+◌, ◌<◌, Bool, true, false, ◌==◌, List, [], ◌∷◌, length, drop, get_or, Result, Ok, Err, refl, sym, ap, ◌∙◌, arith, append_assoc, zero, suc, Bor}
use Rattle.std.specs.List.{list_all, slice_split, onto_first}
use Rattle.std.proofs.lemmas.List.{at_drop_more, length-map}
use Rattle.std.proofs.lemmas.Bool.{and_parts}
use Rattle.pv_path.specs.declared.path_fault.PathFault.TheVariants as fault
use Rattle.pv_path.specs.declared.path_fault.PathFault.{PathFault}
use Rattle.pv_path.specs.Names.{is_name_byte}
use Rattle.pv_path.specs.Paths.{Path}
use Rattle.pv_path.specs.Parsing.{Gives, is_path_byte, joined, names_of, piece_of}
use Rattle.pv_path.proofs.Tests.{texts, get_or-texts}

pub joined-assoc : (a b c : Result Path PathFault) → joined (joined a b) c ≡ joined a (joined b c)
joined-assoc (Ok a) (Ok b) (Ok c) = ap Ok (append_assoc a b c)
joined-assoc (Ok a) (Ok b) (Err f) = refl
joined-assoc (Ok a) (Err f) c = refl
joined-assoc (Err f) b c = refl

-- one more piece is read
pub names_more : (path : Result Path PathFault) (pieces : List (List ℕ)) (i : ℕ) (d : List ℕ) → i < length pieces
    → joined path (names_of (drop i pieces)) ≡ joined (joined path (piece_of (get_or pieces i d))) (names_of (drop (i + 1) pieces))
names_more path pieces i d h =
    ap (joined path) (at_drop_more names_of pieces i d h) ∙ sym (joined-assoc path (piece_of (get_or pieces i d)) (names_of (drop (i + 1) pieces)))

-- whether each byte of each piece may stand in a name
abbrev pub are_names : List (List ℕ) → Bool
are_names pieces = list_all (list_all is_name_byte) pieces

pub are_names-onto_first : (b : ℕ) (pieces : List (List ℕ)) → is_name_byte b ≡ true → are_names pieces ≡ true → are_names (onto_first b pieces) ≡ true
are_names-onto_first b [] is all = rw is
are_names-onto_first b (piece ∷ pieces) is all = rw (is, all)

-- the pieces of a text without NUL have bytes of names alone
pub are_names-split : (text : List ℕ) → list_all is_path_byte text ≡ true → are_names (slice_split (λ b. b == 47) text) ≡ true
are_names-split [] e = refl
are_names-split (b ∷ text) e =
    let both = and_parts (is_path_byte b) (list_all is_path_byte text) e in
    by_byte (b == 47) refl both.0 (are_names-split text both.1)
  where
    by_byte : (slash : Bool) → (b == 47) ≡ slash → is_path_byte b ≡ true → are_names (slice_split (λ c. c == 47) text) ≡ true
        → are_names (slice_split (λ c. c == 47) (b ∷ text)) ≡ true
    by_byte true s is below = rw s below
    by_byte false s is below =
        let named : is_name_byte b ≡ true = rw (is, s) in
        rw s (are_names-onto_first b (slice_split (λ c. c == 47) text) named below)

pub piece_is_names : (pieces : List (List ℕ)) (i : ℕ) (d : List ℕ) → i < length pieces → are_names pieces ≡ true → list_all is_name_byte (get_or pieces i d) ≡ true
piece_is_names [] i d h e = absurd (omega arith)
piece_is_names (piece ∷ pieces) zero d h e = (and_parts (list_all is_name_byte piece) (are_names pieces) e).0
piece_is_names (piece ∷ pieces) (suc i) d h e = piece_is_names pieces i d (omega arith) (and_parts (list_all is_name_byte piece) (are_names pieces) e).1

-- a fault of a piece is the fault of the whole
pub fault_stays : (f : PathFault) (path : Path) (read rest : Result Path PathFault) → Gives (Err f) read → Gives (Err f) (joined (joined (Ok path) read) rest)
fault_stays fault.NotAbsolute path read rest e = rw e
fault_stays fault.BadByte path read rest e = rw e
fault_stays fault.PathTooLong path read rest e = rw e
fault_stays fault.DotComponent path read rest e = rw e
fault_stays fault.NameTooLong path read rest e = rw e
fault_stays fault.StagingName path read rest e = rw e
fault_stays fault.Memory path read rest e = tt

-- one step of the loop over slices, of which `texts` are the pieces
pub texts_more : (path : Path) (pieces : List (Bor (List ℕ))) (i : ℕ) (d : Bor (List ℕ)) → i < length pieces → joined (Ok path) (names_of (drop i (texts pieces))) ≡ names_of (texts pieces)
    → joined (joined (Ok path) (piece_of (get_or pieces i d).now)) (names_of (drop (i + 1) (texts pieces))) ≡ names_of (texts pieces)
texts_more path pieces i d h e =
    let more = names_more (Ok path) (texts pieces) i d.now (simp length-map h) in
    let at : get_or (texts pieces) i d.now ≡ (get_or pieces i d).now = get_or-texts pieces i d in
    sym (rw at at more) ∙ e

-- a piece that fits is added to the path
pub texts_kept : (path new : Path) (pieces : List (Bor (List ℕ))) (i : ℕ) (d : Bor (List ℕ)) → joined (Ok path) (piece_of (get_or pieces i d).now) ≡ Ok new → i < length pieces
    → joined (Ok path) (names_of (drop i (texts pieces))) ≡ names_of (texts pieces) → joined (Ok new) (names_of (drop (i + 1) (texts pieces))) ≡ names_of (texts pieces)
texts_kept path new pieces i d added h e =
    ap (λ (r : Result Path PathFault). joined r (names_of (drop (i + 1) (texts pieces)))) (sym added) ∙ texts_more path pieces i d h e

-- a piece with a fault ends the reading
pub texts_fault : (f : PathFault) (r : Result Path PathFault) (path : Path) (pieces : List (Bor (List ℕ))) (i : ℕ) (d : Bor (List ℕ)) (text : List ℕ) → r ≡ Err f → Gives (Err f) (piece_of (get_or pieces i d).now)
    → i < length pieces → texts pieces ≡ slice_split (λ b. b == 47) text → joined (Ok path) (names_of (drop i (texts pieces))) ≡ names_of (texts pieces) → Gives r (names_of (slice_split (λ b. b == 47) text))
texts_fault f r path pieces i d text is g h cut e =
    let stays = fault_stays f path (piece_of (get_or pieces i d).now) (names_of (drop (i + 1) (texts pieces))) g in
    let whole = ap names_of cut in
    rw (is, ← whole, ← (texts_more path pieces i d h e)) stays

pub text_is_names : (pieces : List (Bor (List ℕ))) (i : ℕ) (d : Bor (List ℕ)) (text : List ℕ) → i < length pieces → texts pieces ≡ slice_split (λ b. b == 47) text → list_all is_path_byte text ≡ true
    → list_all is_name_byte (get_or pieces i d).now ≡ true
text_is_names pieces i d text h e none =
    rw (← (get_or-texts pieces i d)) (piece_is_names (texts pieces) i d.now (simp length-map h) (rw e (are_names-split text none)))
