-- What the fields of a line are that were read.
use Rattle.std.specs.Prelude.{◌≡◌, ℕ, ◌≤◌, Bool, true, false, not, ◌&&◌, ◌||◌, ◌==◌, nat_le, nat_lt, List, [], ◌∷◌, length, Option, Some, None, IfSome, Result, Ok, Err, if◌then◌else◌, refl}
use Rattle.std.specs.Char.{is_digit}
use Rattle.std.specs.List.{list_all, list_any, slice_split}
use Rattle.std.specs.Str.Parse.{digits_value}
use Rattle.std.specs.Result.{result_map_both}
use Rattle.std.proofs.Common.{arith, sym, ap, subst, ◌∙◌}
use Rattle.std.proofs.lemmas.Bool.Decides.{nat_tests}
use Rattle.std.proofs.lemmas.Bool.{and_parts}
use Rattle.pv_age.specs.declared.age.Age.{Age}
use Rattle.pv_path.specs.Parsing.{path_of}
use Rattle.pv_path.specs.Paths.{Path}
use Rattle.pv_path.specs.Results.{◌>>=◌, or_fault}
use Rattle.pv_path.specs.declared.path_fault.PathFault.{PathFault}
use Rattle.pv_path.specs.declared.path_fault.PathFault.TheVariants as path_fault
use Rattle.pv_glob.specs.Parsing.{pattern_of}
use Rattle.pv_glob.specs.declared.element.Element.{Element}
use Rattle.pv_glob.specs.declared.pattern_fault.PatternFault.{PatternFault}
use Rattle.pv_steps.specs.Objects.{IsTarget}
use Rattle.pv_text.specs.Facts.{Values}
use Rattle.pv_text.specs.declared.place.Place.{Place}
use Rattle.pv_lines.specs.declared.line_fault.LineFault.TheVariants as fault
use Rattle.pv_lines.specs.declared.line.Argument.{Argument}
use Rattle.pv_lines.specs.declared.line.LineId.{LineId}
use Rattle.pv_lines.specs.declared.line.LineMode.{LineMode}
use Rattle.pv_lines.specs.declared.line.LinePath.{LinePath}
use Rattle.pv_lines.specs.declared.line.LinePath.TheVariants.{Literal, Glob}
use Rattle.pv_lines.specs.declared.path_field.Named.{Named}
use Rattle.pv_lines.specs.declared.type_field.Typed.{Typed}
use Rattle.pv_lines.specs.declared.types.Row.{Row}
use Rattle.pv_lines.specs.ArgumentField.{checked_target, device_in, device_of}
use Rattle.pv_lines.specs.Faults.{of_path, of_pattern}
use Rattle.pv_lines.specs.Lines.{AreIds, IsArgument, IsConfigured, IsLine, IsLinePath}
use Rattle.pv_lines.specs.ModeField.{is_mode_text, line_age_of, mode_after, mode_of}
use Rattle.pv_lines.specs.PathField.{allowed, current, expansion, is_root, named_of, path_named}
use Rattle.pv_lines.proofs.Rows.{IsTyped}
use Rattle.pv_lines.proofs.Sizes.{pattern_of-few}
use Rattle.pv_path.proofs.Spelled.{path_of-spelled, spelled_names}

-- what a chain gives comes of what its first call gave
pub bound_ok : {A B E P : Type 0} (r : Result A E) (f : A → Result B E) (y : B) → (r >>= f) ≡ Ok y → ((x : A) → r ≡ Ok x → f x ≡ Ok y → P) → P
bound_ok (Ok x) f y e use_it = use_it x refl e
bound_ok (Err fault) f y e use_it = absurd (let no : Err fault ≡ Ok y = e in cc)

-- ---- Mode

is_mode_text-small : (text : List ℕ) → is_mode_text text ≡ true → digits_value 8 text ≤ 0o7777
is_mode_text-small text is =
    let both = and_parts (nat_le 1 (length text) && nat_le (length text) 5 && list_all (λ b. is_digit b 8) text) (nat_le (digits_value 8 text) 0o7777) is in
    grind (arith, nat_tests, both.1)

mode_after-small : (masked new_only : Bool) (text : List ℕ) (mode : LineMode) → mode_after masked new_only text ≡ Some mode → mode.value ≤ 0o7777
mode_after-small masked new_only [] mode e = absurd (let no : None ≡ Some mode = e in cc)
mode_after-small masked new_only (b ∷ text) mode e =
    by_prefix (b == 126 && not masked) (b == 58 && not new_only) (is_mode_text (b ∷ text)) refl e (mode_after-small true new_only text mode) (mode_after-small masked true text mode)
  where
    by_prefix : (mask fresh is : Bool) → is_mode_text (b ∷ text) ≡ is
        → (if mask then mode_after true new_only text else if fresh then mode_after masked true text
        else if is then Some (record { value = digits_value 8 (b ∷ text); masked = masked; new_only = new_only }) else None) ≡ Some mode
        → (mode_after true new_only text ≡ Some mode → mode.value ≤ 0o7777) → (mode_after masked true text ≡ Some mode → mode.value ≤ 0o7777) → mode.value ≤ 0o7777
    by_prefix true fresh is i made masks news = masks made
    by_prefix false true is i made masks news = news made
    by_prefix false false true i made masks news =
        let same : digits_value 8 (b ∷ text) ≡ mode.value = ap (λ m. value_of m) made in
        subst (λ n. n ≤ 0o7777) same (is_mode_text-small (b ∷ text) i)
      where
        value_of : Option LineMode → ℕ
        value_of (Some m) = m.value
        value_of None = 0
    by_prefix false false false i made masks news = absurd (let no : None ≡ Some mode = made in cc)

pub mode_of-small : (field : Option (List ℕ)) (mode : Option LineMode) → mode_of field ≡ Ok mode → IfSome mode (λ m. m.value ≤ 0o7777)
mode_of-small None mode e = let is : mode ≡ None = cc in rw is tt
mode_of-small (Some text) mode e = by_mode (mode_after false false text) refl e
  where
    by_mode : (read : Option LineMode) → mode_after false false text ≡ read → (or_fault fault.BadMode read >>= (λ m. Ok (Some m))) ≡ Ok mode → IfSome mode (λ m. m.value ≤ 0o7777)
    by_mode None is made = absurd (let no : Err fault.BadMode ≡ Ok mode = made in cc)
    by_mode (Some m) is made = let same : mode ≡ Some m = cc in rw same (mode_after-small false false text m is)

-- ---- Age

pub line_age_of-used : (row : Row) (field : Option (List ℕ)) (age : Option Age) → line_age_of row field ≡ Ok age → IfSome age (λ a. row.ages ≡ true)
line_age_of-used row field None e = tt
line_age_of-used row field (Some age) e = by_use row.ages refl
  where
    by_use : (used : Bool) → row.ages ≡ used → row.ages ≡ true
    by_use true u = u
    by_use false u = absurd (let no : Ok None ≡ Ok (Some age) = rw u at e in cc)

-- ---- paths

pub path_of-configured : (text : List ℕ) (path : Path) → path_of text ≡ Ok path → IsConfigured path
path_of-configured text path e =
    let spelled = path_of-spelled text path e in
    let names = spelled_names path spelled.names in
    record { names = names.0; short = names.1; unstaged = names.2; few = omega (arith, spelled.few) }

path_named-fits : (row : Row) (text : List ℕ) (path : LinePath) → path_named row text ≡ Ok path → IsLinePath row path
path_named-fits row text path e = by_kind row.creates refl e
  where
    by_path : (read : Result Path PathFault) → path_of text ≡ read → row.creates ≡ true → result_map_both (λ p. Literal p) of_path read ≡ Ok path → IsLinePath row path
    by_path (Ok p) is creates made = let same : path ≡ Literal p = cc in rw same (creates, path_of-configured text p is)
    by_path (Err f) is creates made = absurd (let no : Err (of_path f) ≡ Ok path = made in cc)

    by_pattern : (read : Result (List (List (List Element))) PatternFault) → pattern_of text ≡ read → row.creates ≡ false → result_map_both (λ p. Glob p) of_pattern read ≡ Ok path → IsLinePath row path
    by_pattern (Ok p) is creates made = let same : path ≡ Glob p = cc in rw same (creates, pattern_of-few text p is)
    by_pattern (Err f) is creates made = absurd (let no : Err (of_pattern f) ≡ Ok path = made in cc)

    by_kind : (creates : Bool) → row.creates ≡ creates
        → (if creates then result_map_both (λ p. Literal p) of_path (path_of text) else result_map_both (λ p. Glob p) of_pattern (pattern_of text)) ≡ Ok path → IsLinePath row path
    by_kind true is made = by_path (path_of text) refl is made
    by_kind false is made = by_pattern (pattern_of text) refl is made

-- a path that a line of a type may name
pub record IsNamed (typed : Typed) (path : LinePath) : Type 0 where
  pub fits : IsLinePath typed.row path
  pub root : is_root path ≡ true → (typed.row.root ≡ true) × (typed.purge ≡ false)

allowed-root : (typed : Typed) (path kept : LinePath) → allowed typed path ≡ Ok kept → (kept ≡ path) × (is_root path ≡ true → (typed.row.root ≡ true) × (typed.purge ≡ false))
allowed-root typed path kept e = by_root (is_root path) typed.row.root typed.purge e
  where
    by_root : (root may purge : Bool) → (if root && (not may || purge) then Err fault.RootPath else Ok path) ≡ Ok kept → (kept ≡ path) × (root ≡ true → (may ≡ true) × (purge ≡ false))
    by_root true true false is = let same : kept ≡ path = cc in (same, λ _. (refl, refl))
    by_root true true true is = absurd (let no : Err fault.RootPath ≡ Ok kept = is in cc)
    by_root true false purge is = absurd (let no : Err fault.RootPath ≡ Ok kept = is in cc)
    by_root false may purge is = let same : kept ≡ path = cc in (same, λ no. absurd (let bad : false ≡ true = no in cc))

pub named_of-named : (facts : Values) (typed : Typed) (text : List ℕ) (named : Named) → named_of facts typed text ≡ Ok named → IsNamed typed named.path
named_of-named facts typed text named e =
    bound_ok (expansion facts text) _ named e (λ written _ read.
    bound_ok (path_named typed.row (current written)) _ named read (λ path spelt read.
    bound_ok (allowed typed path) _ named read (λ kept may made.
    let fits = allowed-root typed path kept may in
    let same : kept ≡ named.path = cc in
    let is : named.path ≡ path = sym same ∙ fits.0 in
    rw is (record { fits = path_named-fits typed.row (current written) path spelt; root = fits.1 }))))

-- ---- Argument

no_nul : (bytes : List ℕ) → list_any (λ b. b == 0) bytes ≡ false → list_all (λ b. not (b == 0)) bytes ≡ true
no_nul [] e = refl
no_nul (b ∷ bytes) e = by_byte (b == 0) e (no_nul bytes)
  where
    by_byte : (nul : Bool) → (nul || list_any (λ c. c == 0) bytes) ≡ false → (list_any (λ c. c == 0) bytes ≡ false → list_all (λ c. not (c == 0)) bytes ≡ true) → (not nul && list_all (λ c. not (c == 0)) bytes) ≡ true
    by_byte true found below = absurd (let no : true ≡ false = found in cc)
    by_byte false found below = below found

pub checked_target-target : (text target : List ℕ) → checked_target text ≡ Ok target → IsTarget target
checked_target-target text target e = by_fault (length text == 0) refl (list_any (λ b. b == 0) text) refl (nat_lt 4095 (length text)) refl e
  where
    by_fault : (empty : Bool) → (length text == 0) ≡ empty → (nul : Bool) → list_any (λ b. b == 0) text ≡ nul → (long : Bool) → nat_lt 4095 (length text) ≡ long
        → (if empty then Err fault.ArgumentNeeded else if nul then Err (fault.Path path_fault.BadByte) else if long then Err (fault.Path path_fault.PathTooLong) else Ok text) ≡ Ok target → IsTarget target
    by_fault true e nul n long l is = absurd (let no : Err fault.ArgumentNeeded ≡ Ok target = is in cc)
    by_fault false e true n long l is = absurd (let no : Err (fault.Path path_fault.BadByte) ≡ Ok target = is in cc)
    by_fault false e false n true l is = absurd (let no : Err (fault.Path path_fault.PathTooLong) ≡ Ok target = is in cc)
    by_fault false e false n false l is =
        let same : target ≡ text = cc in
        rw same (record { some = grind (arith, nat_tests, e); bound = grind (arith, nat_tests, l); no_nul = no_nul text n })

pub device_of-parts : (text : List ℕ) (parts : List (List ℕ)) (device : Option Argument) → parts ≡ slice_split (λ b. b == 58) text → device ≡ device_in parts → or_fault fault.BadDevice device ≡ device_of text
device_of-parts text parts device cut read = ap (or_fault fault.BadDevice) (read ∙ ap device_in cut)

-- ---- lines

kept_path : (row kept : Row) (path : LinePath) → kept.creates ≡ row.creates → IsLinePath row path → IsLinePath kept path
kept_path row kept (Literal path) same is = (same ∙ is.0, is.1)
kept_path row kept (Glob pattern) same is = (same ∙ is.0, is.1)

kept_age : (row kept : Row) (age : Option Age) → kept.ages ≡ row.ages → IfSome age (λ a. row.ages ≡ true) → IfSome age (λ a. kept.ages ≡ true)
kept_age row kept (Some age) same is = same ∙ is
kept_age row kept None same is = tt

-- a line of the fields that were read
pub line_is : (typed : Typed) (named : Named) (mode : Option LineMode) (user group : Option LineId) (age : Option Age) (wanted : Argument) (place : Place)
    → IsTyped typed → IsNamed typed named.path → IfSome mode (λ m. m.value ≤ 0o7777) → AreIds user → AreIds group → IfSome age (λ a. typed.row.ages ≡ true) → IsArgument typed.row.wanted wanted
    → IsLine (record {
      letter = typed.row.letter;
      plus = typed.plus;
      boot = typed.boot;
      minus = typed.minus;
      replace = typed.replace;
      encoded = typed.encoded;
      purge = typed.purge;
      path = named.path;
      path_text = named.text;
      moved = named.moved;
      mode = mode;
      user = user;
      group = group;
      age = age;
      argument = wanted;
      place = place;
    })
line_is typed named mode user group age wanted place is path small users groups used fits = record {
  row = is.kept;
  is_type = is.is_type;
  fits = record {
    letter = sym is.letter;
    plus = is.plus;
    replace = is.replace;
    encoded = is.encoded;
    purge = is.purge;
    path = kept_path typed.row is.kept named.path is.creates path.fits;
    root = λ root. (is.root ∙ (path.root root).0, (path.root root).1);
    mode = small;
    user = users;
    group = groups;
    age = kept_age typed.row is.kept age is.ages used;
    argument = subst (λ w. IsArgument w wanted) (sym is.wanted) fits;
  };
}
