-- The lines of the text of lines without line ends in them are those lines.
use Rattle.std.proofs.Common.{◌≡◌, ℕ, Bool, true, false, not, ◌==◌, List, [], ◌∷◌, ◌++◌, Result, Ok, Err, IfOk, refl, ap, ◌∙◌, if◌then◌else◌}
use Rattle.std.specs.List.{list_all}
use Rattle.std.proofs.lemmas.List.Folds.{list_all-append}
use Rattle.std.proofs.lemmas.Bool.{and_parts}
use Rattle.pv_acl.proofs.Splitting.{split_none, split_at}
use Rattle.pv_accounts.specs.Edits.{text_of, lacks_end, is_behind_new, is_end, with_entry, members_of, is_member, member_suffix, longer, with_member}
use Rattle.pv_accounts.specs.Files.{lines_of}
use Rattle.pv_accounts.specs.Kinds.{is_entry_named}
use Rattle.pv_accounts.proofs.Pieces.{split_cons}

-- some line there is
abbrev pub HasLine : List (List ℕ) → Type 0
HasLine lines = (l : List ℕ) × ((ls : List (List ℕ)) × (lines ≡ l ∷ ls))

lines_text : (l : List ℕ) (ls : List (List ℕ)) → list_all lacks_end (l ∷ ls) ≡ true → lines_of (text_of (l ∷ ls)) ≡ l ∷ ls
lines_text l [] h = split_none 10 l (and_parts (lacks_end l) true h).0
lines_text l (m ∷ ms) h =
    let parts = and_parts (lacks_end l) (list_all lacks_end (m ∷ ms)) h in
    split_at 10 l (text_of (m ∷ ms)) parts.0 ∙ ap (λ (ls : List (List ℕ)). l ∷ ls) (lines_text m ms parts.1)

pub lines_back : (lines : List (List ℕ)) → HasLine lines → list_all lacks_end lines ≡ true → lines_of (text_of lines) ≡ lines
lines_back [] (l, (ls, e)) h = cc
lines_back (l ∷ ls) some h = lines_text l ls h

pub lines_lack : (file : List ℕ) → list_all lacks_end (lines_of file) ≡ true
lines_lack [] = refl
lines_lack (b ∷ bs) = by_test (b == 10) refl (split_cons 10 bs) (lines_lack bs)
  where
    by_test : (end : Bool) → (b == 10) ≡ end → HasLine (lines_of bs) → list_all lacks_end (lines_of bs) ≡ true → list_all lacks_end (lines_of (b ∷ bs)) ≡ true
    by_test true e some rest = rw e rest
    by_test false e (l, (ls, is)) rest =
        let parts = and_parts (lacks_end l) (list_all lacks_end ls) (rw is at rest) in
        rw (e, is, e, parts.0) parts.1

entry_lack : (entry : List ℕ) (lines : List (List ℕ)) → lacks_end entry ≡ true → list_all lacks_end lines ≡ true → list_all lacks_end (with_entry entry lines) ≡ true
entry_lack entry [] e h = rw e refl
entry_lack entry (l ∷ ls) e h =
    let parts = and_parts (lacks_end l) (list_all lacks_end ls) h in
    by_test (is_behind_new (is_end ls) l) parts.0 parts.1 (entry_lack entry ls e parts.1)
  where
    by_test : (b : Bool) → lacks_end l ≡ true → list_all lacks_end ls ≡ true → list_all lacks_end (with_entry entry ls) ≡ true
        → list_all lacks_end (if b then entry ∷ l ∷ ls else l ∷ with_entry entry ls) ≡ true
    by_test true here after rest = rw (e, here) after
    by_test false here after rest = rw here rest

entry_some : (entry : List ℕ) (lines : List (List ℕ)) → HasLine (with_entry entry lines)
entry_some entry [] = (entry, ([] ∷ [], refl))
entry_some entry (l ∷ ls) = by_test (is_behind_new (is_end ls) l)
  where
    by_test : (b : Bool) → HasLine (if b then entry ∷ l ∷ ls else l ∷ with_entry entry ls)
    by_test true = (entry, (l ∷ ls, refl))
    by_test false = (l, (with_entry entry ls, refl))

suffix_lack : (user members : List ℕ) → lacks_end user ≡ true → lacks_end (member_suffix user members) ≡ true
suffix_lack user [] h = h
suffix_lack user (b ∷ bs) h = h

longer_lack : (test : List (List ℕ) → Bool) (user line : List ℕ) → lacks_end user ≡ true → lacks_end line ≡ true → lacks_end (longer test user line) ≡ true
longer_lack test user line h k = by_test (is_member user (members_of test line))
  where
    by_test : (b : Bool) → lacks_end (if b then line else line ++ member_suffix user (members_of test line)) ≡ true
    by_test true = k
    by_test false = rw (list_all-append (λ b. not (b == 10)) line (member_suffix user (members_of test line)), k) (suffix_lack user (members_of test line) h)

member_lack : (test : List (List ℕ) → Bool) (group user : List ℕ) (lines : List (List ℕ)) → lacks_end user ≡ true → list_all lacks_end lines ≡ true → list_all lacks_end (with_member test group user lines) ≡ true
member_lack test group user [] h k = refl
member_lack test group user (l ∷ ls) h k =
    let parts = and_parts (lacks_end l) (list_all lacks_end ls) k in
    by_test (is_entry_named test group l) parts.0 parts.1 (member_lack test group user ls h parts.1)
  where
    by_test : (b : Bool) → lacks_end l ≡ true → list_all lacks_end ls ≡ true → list_all lacks_end (with_member test group user ls) ≡ true
        → list_all lacks_end (if b then longer test user l ∷ ls else l ∷ with_member test group user ls) ≡ true
    by_test true here after rest = rw (longer_lack test user l h here) after
    by_test false here after rest = rw here rest

member_some : (test : List (List ℕ) → Bool) (group user : List ℕ) (lines : List (List ℕ)) → HasLine lines → HasLine (with_member test group user lines)
member_some test group user [] (l, (ls, e)) = cc
member_some test group user (l ∷ ls) some = by_test (is_entry_named test group l)
  where
    by_test : (b : Bool) → HasLine (if b then longer test user l ∷ ls else l ∷ with_member test group user ls)
    by_test true = (longer test user l, (ls, refl))
    by_test false = (l, (with_member test group user ls, refl))

pub entry_lines : (entry file : List ℕ) → lacks_end entry ≡ true → lines_of (text_of (with_entry entry (lines_of file))) ≡ with_entry entry (lines_of file)
entry_lines entry file h = lines_back (with_entry entry (lines_of file)) (entry_some entry (lines_of file)) (entry_lack entry (lines_of file) h (lines_lack file))

pub member_lines : (test : List (List ℕ) → Bool) (group user file : List ℕ) → lacks_end user ≡ true → lines_of (text_of (with_member test group user (lines_of file))) ≡ with_member test group user (lines_of file)
member_lines test group user file h =
    lines_back (with_member test group user (lines_of file)) (member_some test group user (lines_of file) (split_cons 10 file)) (member_lack test group user (lines_of file) h (lines_lack file))

-- what holds of the text of a result holds of its lines
pub if_ok_lines : {V E : Type 0} (items : V → List ℕ) (r : Result V E) (lines : List (List ℕ)) → lines_of (text_of lines) ≡ lines → IfOk r (λ v. items v ≡ text_of lines) → IfOk r (λ v. lines_of (items v) ≡ lines)
if_ok_lines items (Ok v) lines back h = ap lines_of h ∙ back
if_ok_lines items (Err e) lines back h = h
