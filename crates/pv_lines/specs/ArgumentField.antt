-- The field Argument, by what the type takes (tmpfiles.d(5), "Argument" and the sections on each type).
use Prim.Native.Char.{code}
use Rattle.std.specs.Prelude.{ℕ, ◌+◌, ◌^◌, Bool, true, ◌||◌, ◌==◌, nat_lt, List, [], ◌∷◌, ◌++◌, length, codes, drop, take, position, Option, Some, None, option_map, option_and_then, Result, Ok, Err, if◌then◌else◌}
use Rattle.std.specs.List.{list_any, flat_map, slice_split}
use Rattle.std.specs.Int.RustNames.{bit_or}
use Rattle.std.specs.Result.{result_ok}
use Rattle.base64.specs.GeneralPurpose.{decode_of}
use Rattle.base64.specs.Engines.{standard}
use Rattle.pv_acl.specs.Entries.{acl_line_of}
use Rattle.pv_acl.specs.Numbers.{number_of}
use Rattle.pv_path.specs.Parsing.{path_of}
use Rattle.pv_path.specs.Results.{◌>>=◌, in_words, or_fault}
use Rattle.pv_path.specs.declared.path_fault.PathFault.TheVariants as path_fault
use Rattle.pv_steps.specs.Attributes.{is_attr, put_attr}
use Rattle.pv_steps.specs.declared.attr.Attr.{Attr}
use Rattle.pv_steps.specs.Letters.{letter_bit}
use Rattle.pv_text.specs.Facts.{Values}
use Rattle.pv_text.specs.Fields.{is_quote}
use Rattle.pv_lines.specs.declared.line_fault.LineFault.{LineFault}
use Rattle.pv_lines.specs.declared.line_fault.LineFault.TheVariants as fault
use Rattle.pv_lines.specs.declared.line.Argument.{Argument}
use Rattle.pv_lines.specs.declared.line.Argument.TheVariants as argument
use Rattle.pv_steps.specs.declared.letters.LetterHow.{LetterHow}
use Rattle.pv_steps.specs.declared.letters.LetterHow.TheVariants.{Add, Take, Put}
use Rattle.pv_lines.specs.declared.line.LinePath.{LinePath}
use Rattle.pv_lines.specs.declared.line.LinePath.TheVariants.{Literal, Glob}
use Rattle.pv_lines.specs.declared.types.Wanted.{Wanted}
use Rattle.pv_lines.specs.declared.types.Wanted.TheVariants as wanted
use Rattle.pv_lines.specs.Faults.{of_path, of_acl}
use Rattle.pv_lines.specs.PathField.{expansion}

-- ---- bytes

-- The bytes that an argument gives. With the modifier `~` they are what the text encodes in Base64, or the fault is
-- BadBase64. Otherwise they are the text with its specifiers expanded.
abbrev pub bytes_of : Values → Bool → List ℕ → Result (List ℕ) LineFault
bytes_of facts encoded text = if encoded then or_fault fault.BadBase64 (result_ok (decode_of standard text)) else expansion facts text

-- ---- targets and sources

-- The path that is taken if the target of `L` or the source of `C` is omitted: the path of the line below
-- `/usr/share/factory`.
abbrev pub factory : LinePath → List ℕ
factory (Literal path) = codes "/usr/share/factory" ++ flat_map (λ name. code "/" ∷ name) path
factory (Glob pattern) = []

-- The text of a target or a source: the argument with its specifiers expanded. If it is omitted, the path below
-- `/usr/share/factory`.
abbrev pub text_or_factory : Values → LinePath → Option (List ℕ) → Result (List ℕ) LineFault
text_or_factory facts path None = Ok (factory path)
text_or_factory facts path (Some text) = expansion facts text

-- A target of a symbolic link, which has 1 to 4095 bytes without NUL. The faults are tested in this order: empty,
-- NUL, too long.
abbrev pub checked_target : List ℕ → Result (List ℕ) LineFault
checked_target text =
    if length text == 0 then Err fault.ArgumentNeeded
    else if list_any (λ b. b == 0) text then Err (fault.Path path_fault.BadByte)
    else if nat_lt 4095 (length text) then Err (fault.Path path_fault.PathTooLong)
    else Ok text

-- ---- devices

-- The number below 2^32 that a text spells, if it does.
abbrev pub number_32 : List ℕ → Option ℕ
number_32 text = option_and_then (λ n. if nat_lt n (2 ^ 32) then Some n else None) (number_of text)

-- The device numbers of two texts, the first one major and the second one minor.
abbrev pub device_in : List (List ℕ) → Option Argument
device_in (major ∷ minor ∷ []) = by (number_32 major) (number_32 minor)
  where
    by : Option ℕ → Option ℕ → Option Argument
    by (Some major) (Some minor) = Some (argument.Device major minor)
    by _ _ = None
device_in parts = None

-- The device that a text `MAJOR:MINOR` spells, or the fault BadDevice.
abbrev pub device_of : List ℕ → Result Argument LineFault
device_of text = or_fault fault.BadDevice (device_in (slice_split (λ b. b == code ":") text))

-- ---- extended attributes

-- The bytes of the word that has begun. If there is none, no bytes.
abbrev pub begun : Option (List ℕ) → List ℕ
begun None = []
begun (Some word) = word

-- The word that has begun, as a list of one word or none.
abbrev pub begun_words : Option (List ℕ) → List (List ℕ)
begun_words None = []
begun_words (Some word) = word ∷ []

-- The word that has begun, followed by the words after it.
abbrev pub with_word : Option (List ℕ) → Option (List (List ℕ)) → Option (List (List ℕ))
with_word word words = option_map (λ words. begun_words word ++ words) words

-- The bytes that separate words: space and tab.
abbrev pub is_space : ℕ → Bool
is_space b = b == code " " || b == code "\t"

-- The words of a text, separated by spaces and tabs. A part between two quotes of one kind may hold spaces, tabs and
-- the other kind of quote. The quotes are dropped. Nothing results if a quote stays open. The first argument is the
-- quote that is open at the start, if any. The second is the word that has begun, if any.
abbrev pub words_from : Option ℕ → Option (List ℕ) → List ℕ → Option (List (List ℕ))
words_from None word [] = with_word word (Some [])
words_from (Some quote) word [] = None
words_from (Some quote) word (b ∷ text) =
    if b == quote then words_from None word text
    else words_from (Some quote) (Some (begun word ++ b ∷ [])) text
words_from None word (b ∷ text) =
    if is_quote b then words_from (Some b) (Some (begun word)) text
    else if is_space b then with_word word (words_from None None text)
    else words_from None (Some (begun word ++ b ∷ [])) text

-- The attribute that a word `NAME=VALUE` spells. The word is cut at the first `=`, and the name and value must be
-- allowed.
abbrev pub attr_in : List ℕ → Option Attr
attr_in word = option_and_then (λ at. if is_attr (take at word) (drop (at + 1) word) then Some (record { name = take at word; value = drop (at + 1) word }) else None) (position (λ b. b == code "=") word)

-- The attributes that words spell, added to some. If two words have one name, the later one counts. Nothing results
-- if a word spells no attribute.
abbrev pub attrs_in : List (List ℕ) → List Attr → Option (List Attr)
attrs_in [] attrs = Some attrs
attrs_in (word ∷ words) attrs = option_and_then (λ attr. attrs_in words (put_attr attr attrs)) (attr_in word)

-- The attributes of `t` and `T` lines, or the fault BadAttribute.
abbrev pub attrs_of : List ℕ → Result Argument LineFault
attrs_of text =
    or_fault fault.BadAttribute (option_and_then (λ words. attrs_in words []) (words_from None None text)) >>= (λ attrs.
    Ok (argument.Attrs attrs))

-- ---- file attribute flags

-- The sign before the flags, and the letters after it. `+` adds the flags, `-` takes them away, and `=` sets exactly
-- these. Without a sign they are added.
abbrev pub sign_of : List ℕ → LetterHow × List ℕ
sign_of [] = (Add, [])
sign_of (b ∷ text) =
    if b == code "+" then (Add, text)
    else if b == code "-" then (Take, text)
    else if b == code "=" then (Put, text)
    else (Add, b ∷ text)

-- The set of flags for which some letters stand. Nothing results if a letter stands for no flag (chattr(1)).
abbrev pub set_of : List ℕ → Option ℕ
set_of [] = Some 0
set_of (letter ∷ letters) = by (letter_bit letter) (set_of letters)
  where
    by : Option ℕ → Option ℕ → Option ℕ
    by (Some bit) (Some set) = Some (bit_or bit set)
    by _ _ = None

-- Whether there are enough letters: at least one. After `=` there may be none, which clears all flags.
abbrev pub are_enough : LetterHow × List ℕ → Bool
are_enough (Put, letters) = true
are_enough (how, letters) = nat_lt 0 (length letters)

-- The change of flags of `h` and `H` lines, or the fault BadLetter.
abbrev pub letters_of : List ℕ → Result Argument LineFault
letters_of text =
    if are_enough (sign_of text) then
    or_fault fault.BadLetter (set_of (sign_of text).1) >>= (λ set. Ok (argument.Letters (sign_of text).0 set))
    else Err fault.BadLetter

-- ---- the argument

-- An argument that must not be omitted. Otherwise the fault is ArgumentNeeded.
abbrev pub needed : Option (List ℕ) → Result (List ℕ) LineFault
needed field = or_fault fault.ArgumentNeeded field

-- An argument that must not be empty. Otherwise the fault is ArgumentNeeded.
abbrev pub filled : List ℕ → Result (List ℕ) LineFault
filled text = if length text == 0 then Err fault.ArgumentNeeded else Ok text

-- An argument that must not be omitted, with its specifiers expanded.
abbrev pub needed_text : Values → Option (List ℕ) → Result (List ℕ) LineFault
needed_text facts field = needed field >>= expansion facts

-- The same for an argument that must not be empty after this.
abbrev pub filled_text : Values → Option (List ℕ) → Result (List ℕ) LineFault
filled_text facts field = needed_text facts field >>= filled

-- Where the IDs of user names and group names are looked up.
pub record Lookup : Type 0 where
  pub uid_named : List ℕ → Option ℕ
  pub gid_named : List ℕ → Option ℕ

-- The content of a file (`f`, `F`). It may be omitted.
abbrev pub content_of : Values → Bool → Option (List ℕ) → Result Argument LineFault
content_of facts encoded None = Ok (argument.FileBytes None)
content_of facts encoded (Some text) = bytes_of facts encoded text >>= (λ bytes. Ok (argument.FileBytes (Some bytes)))

-- The bytes that are written into a file (`w`). They must not be omitted.
abbrev pub written_of : Values → Bool → Option (List ℕ) → Result Argument LineFault
written_of facts encoded field = needed field >>= bytes_of facts encoded >>= (λ bytes. Ok (argument.WriteBytes bytes))

-- The target of a symbolic link (`L`).
abbrev pub target_of : Values → LinePath → Option (List ℕ) → Result Argument LineFault
target_of facts path field = text_or_factory facts path field >>= checked_target >>= (λ target. Ok (argument.Target target))

-- The path that is copied (`C`).
abbrev pub source_of : Values → LinePath → Option (List ℕ) → Result Argument LineFault
source_of facts path field =
    text_or_factory facts path field >>= (λ text. in_words of_path (path_of text)) >>= (λ source. Ok (argument.Source source))

-- The ACL entries of `a` and `A` lines (acl(5)).
abbrev pub entries_of : Values → Lookup → Option (List ℕ) → Result Argument LineFault
entries_of facts lookup field =
    needed_text facts field
    >>= (λ text. in_words of_acl (acl_line_of lookup.uid_named lookup.gid_named text))
    >>= (λ entries. Ok (argument.Entries entries))

-- The argument that a field spells, by what the type takes, or its first fault. A type that takes no argument ignores
-- the field.
abbrev pub argument_of : Values → Lookup → LinePath → Bool → Wanted → Option (List ℕ) → Result Argument LineFault
argument_of facts lookup path encoded wanted.Content field = content_of facts encoded field
argument_of facts lookup path encoded wanted.Bytes field = written_of facts encoded field
argument_of facts lookup path encoded wanted.Target field = target_of facts path field
argument_of facts lookup path encoded wanted.Source field = source_of facts path field
argument_of facts lookup path encoded wanted.Device field = needed_text facts field >>= device_of
argument_of facts lookup path encoded wanted.Entries field = entries_of facts lookup field
argument_of facts lookup path encoded wanted.Attrs field = filled_text facts field >>= attrs_of
argument_of facts lookup path encoded wanted.Letters field = filled_text facts field >>= letters_of
argument_of facts lookup path encoded wanted.Nothing field = Ok argument.Ignored
