-- Specifiers: a percent sign and a letter stand for a text (tmpfiles.d(5), sysusers.d(5)).
use Rattle.std.specs.Prelude.{◌≡◌, ℕ, Bool, ◌==◌, List, [], ◌∷◌, ◌++◌, codes, Option, Some, None, Result, Ok, Err, if◌then◌else◌}
use Rattle.std.specs.List.{list_any}
use Rattle.std.specs.Map.{lookup}
use Rattle.std.specs.FinMap as map
use Rattle.pv_text.specs.Facts.{Values}
use Rattle.pv_text.specs.declared.tool.Tool.{Tool}
use Rattle.pv_text.specs.declared.tool.Tool.TheVariants.{Tmpfiles, Sysusers}
use Rattle.pv_text.specs.declared.text_fault.ExpandFault.{ExpandFault}
use Rattle.pv_text.specs.declared.text_fault.ExpandFault.TheVariants.{UnknownSpecifier, MissingFact, Memory}

-- Whether a letter is one of these.
abbrev pub is_one_of : List ℕ → ℕ → Bool
is_one_of letters letter = list_any (λ l. l == letter) letters

-- What `%%`, `%T` and `%V` stand for, with both tools: a percent sign and the two directories for temporary files.
abbrev pub fixed_for_both : ℕ → Option (List ℕ)
fixed_for_both letter = lookup (λ l. letter == l) ((37, codes "%") ∷ (84, codes "/tmp") ∷ (86, codes "/var/tmp") ∷ [])

-- What these specifiers stand for with systemd-tmpfiles: `%C`, `%L`, `%S` and `%t` are directories of the system.
-- `%g` and `%u` are `root`, `%G` and `%U` are `0`, and `%h` is `/root`.
abbrev pub fixed_for_tmpfiles : ℕ → Option (List ℕ)
fixed_for_tmpfiles letter = lookup (λ l. letter == l)
    ((67, codes "/var/cache") ∷ (76, codes "/var/log") ∷ (83, codes "/var/lib") ∷ (116, codes "/run")
    ∷ (103, codes "root") ∷ (117, codes "root") ∷ (71, codes "0") ∷ (85, codes "0") ∷ (104, codes "/root") ∷ [])

-- The value of a fact. If the image has none, `%a`, `%b`, `%H`, `%l`, `%m` and `%v` are a fault, and `%A`, `%B`,
-- `%M`, `%o`, `%w` and `%W` are empty. Any other letter is unknown.
abbrev pub from_facts : Values → ℕ → Result (List ℕ) ExpandFault
from_facts facts letter =
    if is_one_of (codes "abHlmv") letter then stated (Err MissingFact) (map.get facts letter)
    else if is_one_of (codes "ABMowW") letter then stated (Ok []) (map.get facts letter)
    else Err UnknownSpecifier
  where
    stated : Result (List ℕ) ExpandFault → Option (List ℕ) → Result (List ℕ) ExpandFault
    stated none (Some value) = Ok value
    stated none None = none

-- What the letter after a percent sign stands for with a tool. Fixed texts come first, and then the facts. With
-- systemd-sysusers only `%%`, `%T` and `%V` are fixed.
abbrev pub meaning_of : Tool → Values → ℕ → Result (List ℕ) ExpandFault
meaning_of tool facts letter = fixed (fixed_for_both letter) (for_tool tool)
  where
    fixed : Option (List ℕ) → Result (List ℕ) ExpandFault → Result (List ℕ) ExpandFault
    fixed (Some text) other = Ok text
    fixed None other = other

    for_tool : Tool → Result (List ℕ) ExpandFault
    for_tool Tmpfiles = fixed (fixed_for_tmpfiles letter) (from_facts facts letter)
    for_tool Sysusers = from_facts facts letter

-- Two texts one after the other, or the first fault.
abbrev pub joined : Result (List ℕ) ExpandFault → Result (List ℕ) ExpandFault → Result (List ℕ) ExpandFault
joined (Err fault) rest = Err fault
joined (Ok text) (Err fault) = Err fault
joined (Ok text) (Ok rest) = Ok (text ++ rest)

-- A text with its specifiers replaced, or the first fault from the left. The replacement is not expanded again. A
-- percent sign at the end of the text is a fault.
abbrev pub expanded : Tool → Values → List ℕ → Result (List ℕ) ExpandFault
expanded tool facts [] = Ok []
expanded tool facts (b ∷ []) = if b == 37 then Err UnknownSpecifier else Ok (b ∷ [])
expanded tool facts (b ∷ letter ∷ rest) =
    if b == 37 then joined (meaning_of tool facts letter) (expanded tool facts rest)
    else joined (Ok (b ∷ [])) (expanded tool facts (letter ∷ rest))

-- If a call answers with a fault, it is the fault that the definition gives. Only the fault that memory ran out is
-- always allowed.
abbrev pub FailsSo : ExpandFault → Result (List ℕ) ExpandFault → Type 0
FailsSo Memory read = Unit {0}
FailsSo fault read = read ≡ Err fault
