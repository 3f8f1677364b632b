-- What the arguments of lines that were read are, whatever the type of the line wants.
use Rattle.std.specs.Prelude.{◌≡◌, ◌<◌, ◌^◌, ℕ, true, List}
use Rattle.pv_acl.specs.declared.line.AclLine.{AclLine}
use Rattle.pv_acl.specs.Applying.{is_line}
use Rattle.pv_steps.specs.declared.attr.Attr.{Attr}
use Rattle.pv_steps.specs.declared.letters.LetterHow.{LetterHow}
use Rattle.pv_steps.specs.Attributes.{are_attrs}
use Rattle.pv_lines.specs.declared.line.Argument.TheVariants as argument
use Rattle.pv_lines.specs.declared.types.Wanted.{Wanted}
use Rattle.pv_lines.specs.declared.types.Wanted.TheVariants as wanted
use Rattle.pv_lines.specs.Lines.{IsArgument}

-- entries are such as a line may hold
pub entries_are : (want : Wanted) (entries : AclLine) → IsArgument want (argument.Entries entries) → is_line entries ≡ true
entries_are wanted.Entries entries h = h
entries_are want entries h = absurd h

-- extended attributes are such as an object may have
pub attrs_are : (want : Wanted) (attrs : List Attr) → IsArgument want (argument.Attrs attrs) → are_attrs attrs ≡ true
attrs_are wanted.Attrs attrs h = h
attrs_are want attrs h = absurd h

-- letters are letters that there are
pub letters_are : (want : Wanted) (how : LetterHow) (letters : ℕ) → IsArgument want (argument.Letters how letters) → letters < 2 ^ 15
letters_are wanted.Letters how letters h = h
letters_are want how letters h = absurd h
