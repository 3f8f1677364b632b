-- The lines of an account file with the places of their names, where members are added.
use Rattle.std.proofs.Common.{◌≡◌, ℕ, ◌+◌, ◌-◌, ◌<◌, ◌≤◌, zero, suc, Bool, true, false, ◌||◌, ◌&&◌, List, [], ◌∷◌, ◌++◌, map, take, drop, find, length, get_or, set, Bor, Option, Some, None, Result, Ok, Err, OnOk, is_some, option_map, append-nil, refl, sym, ap, ◌∙◌, arith, cond, if◌then◌else◌}
use Rattle.std.specs.List.{flat_map, list_all, list_any}
use Rattle.std.specs.Str.{bytes_eq}
use Rattle.std.proofs.lemmas.Slice.Eq.{bytes_eq-Decides}
use Rattle.std.specs.Option.{option_or}
use Rattle.std.proofs.lemmas.Bool.{and_parts}
use Rattle.std.proofs.lemmas.List.{get_or-map, map-set, take_rest}
use Rattle.std.proofs.lemmas.List.Splits.{join_with_byte-slice_split}
use Rattle.pv_acl.proofs.Splitting.{split_none}
use Rattle.pv_accounts.specs.Edits.{lacks_end, longer, text_of, with_member}
use Rattle.pv_accounts.specs.Files.{lines_of}
use Rattle.pv_accounts.specs.Entries.{fields_of}
use Rattle.pv_accounts.specs.Kinds.{has_members, is_entry_named, test_of}
use Rattle.pv_accounts.specs.declared.find.Kind.{Kind}
use Rattle.pv_accounts.specs.declared.find.Kind.TheVariants.{Passwd, Group, Shadow, Gshadow}
use Rattle.pv_accounts.proofs.Ends.{lines_lack, member_lines}
use Rattle.pv_accounts.proofs.Holding.{Fields}
use Rattle.pv_accounts.proofs.Members.{HasMembers, file_named, group_members, gshadow_members}
use Rattle.pv_accounts.proofs.Rereading.{IsPlain}
use Rattle.pv_path.proofs.Tests.{option_or-none}
use Rattle.pv_sysusers.specs.Members.{AreLines, IsPlaced, lines_held, place_of, place_found}
use Rattle.pv_sysusers.specs.declared.members.MemberLines.{MemberLines}
use Rattle.pv_sysusers.specs.Texts.{with_memberships}

-- ---- places

place_next : (b : Bool) (o : Option ℕ) (n : ℕ) → option_map suc (option_or o (cond b (Some n) None)) ≡ option_or (option_map suc o) (cond b (Some (suc n)) None)
place_next b (Some m) n = refl
place_next true None n = refl
place_next false None n = refl

-- one line more
pub place_end : (test : Fields → Bool) (name line : List ℕ) (lines : List (List ℕ))
    → place_of test name (lines ++ line ∷ []) ≡ option_or (place_of test name lines) (cond (is_entry_named test name line) (Some (length lines)) None)
place_end test name line [] = refl
place_end test name line (l ∷ ls) = by (is_entry_named test name l) (place_end test name line ls)
  where
    by : (b : Bool) → place_of test name (ls ++ line ∷ []) ≡ option_or (place_of test name ls) (cond (is_entry_named test name line) (Some (length ls)) None)
        → (if b then Some 0 else option_map suc (place_of test name (ls ++ line ∷ []))) ≡ option_or (if b then Some 0 else option_map suc (place_of test name ls)) (cond (is_entry_named test name line) (Some (suc (length ls))) None)
    by true rest = refl
    by false rest = ap (option_map suc) rest ∙ place_next (is_entry_named test name line) (place_of test name ls) (length ls)

-- ---- lines

-- lines of a text have no line ends in them
pub lines_whole : (lines : List (List ℕ)) → AreLines lines → list_all lacks_end lines ≡ true
lines_whole lines e = sym (ap (list_all lacks_end) e) ∙ lines_lack (text_of lines)

pub file_whole : (file : List ℕ) → AreLines (lines_of file)
file_whole file = ap lines_of (join_with_byte-slice_split 10 file)

module _ (test : Fields → Bool) (group user : List ℕ) where
  -- the line of a group alone
  pub line_alone : (line : List ℕ) → lacks_end line ≡ true → is_entry_named test group line ≡ true → text_of (with_member test group user (lines_of line)) ≡ longer test user line
  line_alone line h e = ap (λ (ls : List (List ℕ)). text_of (with_member test group user ls)) (split_none 10 line h) ∙ ap (λ b. text_of (if b then longer test user line ∷ [] else line ∷ [])) e

  -- the first entry of the group is where its place says
  pub record IsHere (lines : List (List ℕ)) (at : ℕ) : Type 0 where
    pub within : at < length lines
    pub named : (d : List ℕ) → is_entry_named test group (get_or lines at d) ≡ true
    pub whole : list_all lacks_end lines ≡ true → (d : List ℕ) → lacks_end (get_or lines at d) ≡ true
    pub longer : (d : List ℕ) → set lines at (longer test user (get_or lines at d)) ≡ with_member test group user lines

  pub here : (lines : List (List ℕ)) (at : ℕ) → place_of test group lines ≡ Some at → IsHere lines at
  here [] at h = absurd (let no : None ≡ Some at = h in cc)
  here (l ∷ ls) at h = by (is_entry_named test group l) refl (place_of test group ls) refl at h (here ls)
    where
      by : (b : Bool) → is_entry_named test group l ≡ b → (o : Option ℕ) → place_of test group ls ≡ o → (at : ℕ) → (if b then Some 0 else option_map suc o) ≡ Some at
          → ((i : ℕ) → place_of test group ls ≡ Some i → IsHere ls i) → IsHere (l ∷ ls) at
      by true e o is zero k rest = record {
        within = omega arith;
        named = λ d. e;
        whole = λ all d. (and_parts (lacks_end l) (list_all lacks_end ls) all).0;
        longer = λ d. rw e refl;
      }
      by true e o is (suc i) k rest = absurd (let no : Some 0 ≡ Some (suc i) = k in cc)
      by false e None is at k rest = absurd (let no : None ≡ Some at = k in cc)
      by false e (Some i) is zero k rest = absurd (let no : Some (suc i) ≡ Some 0 = k in cc)
      by false e (Some i) is (suc at) k rest =
          let same : i ≡ at = let all : Some (suc i) ≡ Some (suc at) = k in cc in
          let found : IsHere ls at = rest at (is ∙ ap Some same) in
          record {
            within = let w : at < length ls = found.within in omega (arith, w);
            named = found.named;
            whole = λ all d. found.whole (and_parts (lacks_end l) (list_all lacks_end ls) all).1 d;
            longer = λ d. rw e (ap (λ (ms : List (List ℕ)). l ∷ ms) (found.longer d));
          }

  -- no entry of the group
  pub nowhere : (lines : List (List ℕ)) → place_of test group lines ≡ None → with_member test group user lines ≡ lines
  nowhere [] h = refl
  nowhere (l ∷ ls) h = by (is_entry_named test group l) (place_of test group ls) refl h (nowhere ls)
    where
      by : (b : Bool) (o : Option ℕ) → place_of test group ls ≡ o → (if b then Some 0 else option_map suc o) ≡ None → (place_of test group ls ≡ None → with_member test group user ls ≡ ls)
          → (if b then longer test user l ∷ ls else l ∷ with_member test group user ls) ≡ l ∷ ls
      by true o is k rest = absurd (let no : Some 0 ≡ None = k in cc)
      by false (Some i) is k rest = absurd (let no : Some (suc i) ≡ None = k in cc)
      by false None is k rest = ap (λ (ms : List (List ℕ)). l ∷ ms) (rest is)

  module _ (has : HasMembers test) (plain : IsPlain user) where
    abbrev either : (a b : Bool) → (a || false) ≡ (b || false) → a ≡ b
    either true true e = refl
    either false false e = refl
    either true false e = e
    either false true e = e

    longer_named : (name line : List ℕ) → lacks_end line ≡ true → is_entry_named test group line ≡ true → is_entry_named test name (longer test user line) ≡ is_entry_named test name line
    longer_named name line h e =
        let alone : lines_of line ≡ line ∷ [] = split_none 10 line h in
        let grown : lines_of (text_of (with_member test group user (lines_of line))) ≡ longer test user line ∷ [] =
        member_lines test group user line plain.ending ∙ ap (with_member test group user) alone ∙ ap (λ b. if b then longer test user line ∷ [] else line ∷ []) e in
        either (is_entry_named test name (longer test user line)) (is_entry_named test name line)
        (sym (ap (list_any (is_entry_named test name)) grown) ∙ file_named test has group user plain name line ∙ ap (list_any (is_entry_named test name)) alone)

    -- the places stay
    pub place_kept : (name : List ℕ) (lines : List (List ℕ)) → list_all lacks_end lines ≡ true → place_of test name (with_member test group user lines) ≡ place_of test name lines
    place_kept name [] h = refl
    place_kept name (l ∷ ls) h = by (is_entry_named test group l) refl (and_parts (lacks_end l) (list_all lacks_end ls) h).0 (place_kept name ls (and_parts (lacks_end l) (list_all lacks_end ls) h).1)
      where
        by : (b : Bool) → is_entry_named test group l ≡ b → lacks_end l ≡ true → place_of test name (with_member test group user ls) ≡ place_of test name ls
            → place_of test name (if b then longer test user l ∷ ls else l ∷ with_member test group user ls) ≡ place_of test name (l ∷ ls)
        by true e whole rest = ap (λ t. if t then Some 0 else option_map suc (place_of test name ls)) (longer_named name l whole e)
        by false e whole rest = ap (λ (o : Option ℕ). if is_entry_named test name l then Some 0 else option_map suc o) rest

  -- and so do the line ends
  pub whole_kept : (lines : List (List ℕ)) → AreLines lines → lacks_end user ≡ true → AreLines (with_member test group user lines)
  whole_kept lines e h =
      sym (ap (λ (ls : List (List ℕ)). lines_of (text_of (with_member test group user ls))) e)
      ∙ member_lines test group user (text_of lines) h ∙ ap (with_member test group user) e

-- ---- kinds of files

pub members_in : (kind : Kind) → has_members kind ≡ true → HasMembers (test_of kind)
members_in Passwd h = absurd (let no : false ≡ true = h in cc)
members_in Group h = group_members
members_in Shadow h = absurd (let no : false ≡ true = h in cc)
members_in Gshadow h = gshadow_members

-- ---- the name of a line

-- a line is an entry of its first field, or of no name
pub named_of : (test : Fields → Bool) (line a : List ℕ) (more : Fields) → fields_of line ≡ a ∷ more → lacks_end line ≡ true
    → (o : Option (List ℕ)) → o ≡ find (is_entry_named test a) (lines_of line) → (name : List ℕ) → is_entry_named test name line ≡ (is_some o && bytes_eq a name)
named_of test line a more f whole o is name = by (test (a ∷ more)) refl
  where
    shown : (b : Bool) → is_some (if b then Some line else None) ≡ b
    shown true = refl
    shown false = refl

    found : (b : Bool) → is_entry_named test a line ≡ b → is_some o ≡ b
    found b e =
        ap is_some (is ∙ ap (find (is_entry_named test a)) (split_none 10 line whole))
        ∙ ap (λ t. is_some (if t then Some line else None)) e ∙ shown b

    by : (b : Bool) → test (a ∷ more) ≡ b → is_entry_named test name line ≡ (is_some o && bytes_eq a name)
    by true e =
        let here : is_entry_named test a line ≡ true = rw (f, e) ((bytes_eq-Decides a a).1 refl) in
        let there : is_some o ≡ true = found true here in
        rw (f, e, there) refl
    by false e =
        let here : is_entry_named test a line ≡ false = rw (f, e) refl in
        let there : is_some o ≡ false = found false here in
        rw (f, e, there) refl

-- ---- lists

pub all_at : (p : List ℕ → Bool) (xs : List (Bor (List ℕ))) (i : ℕ) (d : Bor (List ℕ)) → list_all p (map (λ s. s.now) xs) ≡ true → i < length xs → p (get_or xs i d).now ≡ true
all_at p [] i d h below = absurd (omega arith)
all_at p (x ∷ xs) zero d h below = (and_parts (p x.now) (list_all p (map (λ s. s.now) xs)) h).0
all_at p (x ∷ xs) (suc i) d h below = all_at p xs i d (and_parts (p x.now) (list_all p (map (λ s. s.now) xs)) h).1 (omega arith)

-- places of lines, of which one is new
pub placed_more : (test : Fields → Bool) (stated after : List ℕ → Option ℕ) (lines more : List (List ℕ)) (line : List ℕ) (at : ℕ) → at ≡ length lines → more ≡ lines ++ line ∷ []
    → ((name : List ℕ) → stated name ≡ place_of test name lines)
    → ((name : List ℕ) → after name ≡ option_or (stated name) (cond (is_entry_named test name line) (Some at) None))
    → (name : List ℕ) → after name ≡ place_of test name more
placed_more test stated after lines more line at e is before step name =
    step name
    ∙ ap (λ (o : Option ℕ). option_or o (cond (is_entry_named test name line) (Some at) None)) (before name)
    ∙ ap (λ (n : ℕ). option_or (place_of test name lines) (cond (is_entry_named test name line) (Some n) None)) e
    ∙ sym (ap (place_of test name) is ∙ place_end test name line lines)

-- ---- places that are noted

pub noted : (stated after : List ℕ → Option ℕ) (name : List ℕ) (at : ℕ) → None ≡ stated name
    → ((other : List ℕ) → after other ≡ cond (bytes_eq name other) (Some at) (stated other))
    → (other : List ℕ) → after other ≡ option_or (stated other) (cond (bytes_eq name other) (Some at) None)
noted stated after name at none step other = step other ∙ by (bytes_eq name other) refl
  where
    by : (b : Bool) → bytes_eq name other ≡ b → cond b (Some at) (stated other) ≡ option_or (stated other) (cond b (Some at) None)
    by true e =
        let same : name ≡ other = (bytes_eq-Decides name other).0 e in
        ap (λ (o : Option ℕ). option_or o (Some at)) (none ∙ ap stated same)
    by false e = sym (option_or-none (stated other))

-- ---- texts

pub held_length : {A : Type 0} (f : A → List ℕ) (xs : List A) → length (map f xs) ≡ length xs
held_length f [] = refl
held_length f (x ∷ xs) = ap suc (held_length f xs)

text_joined : {A : Type 0} (f : A → List ℕ) (x : A) (xs : List A) → f x ++ flat_map (λ y. 10 ∷ f y) xs ≡ text_of (map f (x ∷ xs))
text_joined f x [] = append-nil (f x)
text_joined f x (y ∷ ys) = ap (λ (t : List ℕ). f x ++ 10 ∷ t) (text_joined f y ys)

-- the first line, and the others after line ends
pub text_written : {A : Type 0} (f : A → List ℕ) (p r : List ℕ) (xs : List A) (d : A) → 1 ≤ length xs → p ≡ f (get_or xs 0 d)
    → r ≡ p ++ flat_map (λ x. 10 ∷ f x) (take (length xs - 1) (drop 1 xs)) → r ≡ text_of (map f xs)
text_written f p r [] d some e g = absurd (omega arith)
text_written {A} f p r (x ∷ xs) d some e g =
    let rest : take (length (x ∷ xs) - 1) xs ≡ xs = take_rest (x ∷ xs) 1 in
    g ∙ ap (λ (ys : List A). p ++ flat_map (λ y. 10 ∷ f y) ys) rest ∙ ap (λ (t : List ℕ). t ++ flat_map (λ y. 10 ∷ f y) xs) e ∙ text_joined f x xs

-- a line is put in the place of another
pub held_set : {A : Type 0} (f : A → List ℕ) (test : Fields → Bool) (group user : List ℕ) (xs : List A) (at : ℕ) (d new : A) → IsHere test group user (map f xs) at → AreLines (map f xs)
    → f new ≡ text_of (with_member test group user (lines_of (f (get_or xs at d)))) → map f (set xs at new) ≡ with_member test group user (map f xs)
held_set f test group user xs at d new here whole is =
    let below : at < length (map f xs) = here.within in
    let long : length (map f xs) ≡ length xs = held_length f xs in
    let old : get_or (map f xs) at (f d) ≡ f (get_or xs at d) = get_or-map f xs at d (f d) (omega (arith, below, long)) in
    let lacks : lacks_end (f (get_or xs at d)) ≡ true = sym (ap lacks_end old) ∙ here.whole (lines_whole (map f xs) whole) (f d) in
    let named : is_entry_named test group (f (get_or xs at d)) ≡ true = sym (ap (is_entry_named test group) old) ∙ here.named (f d) in
    let grown : f new ≡ longer test user (get_or (map f xs) at (f d)) =
    is ∙ line_alone test group user (f (get_or xs at d)) lacks named ∙ sym (ap (longer test user) old) in
    map-set f xs at new ∙ ap (set (map f xs) at) grown ∙ here.longer (f d)

-- ---- one member is added

-- what follows where a call has not failed
pub on_ok : {A E : Type 0} (r : Result A E) (P Q : Type 0) → (P → Q) → OnOk r P → OnOk r Q
on_ok (Ok x) P Q f h = f h
on_ok (Err e) P Q f h = tt

pub place_stays : (test : Fields → Bool) → HasMembers test → (group user : List ℕ) → IsPlain user → (old new : MemberLines) → AreLines (lines_held old) → ((name : List ℕ) → place_found new name ≡ place_found old name)
    → lines_held new ≡ with_member test group user (lines_held old) → IsPlaced test old → IsPlaced test new
place_stays test has group user plain old new whole places lines placed name =
    places name ∙ placed name
    ∙ sym (place_kept test group user has plain name (lines_held old) (lines_whole (lines_held old) whole)) ∙ ap (place_of test name) (sym lines)

pub whole_stays : (test : Fields → Bool) (group user : List ℕ) (old new : List (List ℕ)) → lacks_end user ≡ true → AreLines old → new ≡ with_member test group user old → AreLines new
whole_stays test group user old new h whole is = ap (λ (ls : List (List ℕ)). lines_of (text_of ls)) is ∙ whole_kept test group user old whole h ∙ sym is

-- the lines of a file are held
pub file_held : (test : Fields → Bool) (ms : List (List ℕ × List ℕ)) (file : List ℕ) (held : List (List ℕ)) → held ≡ lines_of file → with_memberships test ms (text_of held) ≡ with_memberships test ms file
file_held test ms file held is = ap (λ (ls : List (List ℕ)). with_memberships test ms (text_of ls)) is ∙ ap (with_memberships test ms) (join_with_byte-slice_split 10 file)

pub file_lines : (file : List ℕ) (held : List (List ℕ)) → held ≡ lines_of file → AreLines held
file_lines file held is = ap (λ (ls : List (List ℕ)). lines_of (text_of ls)) is ∙ file_whole file ∙ sym is
