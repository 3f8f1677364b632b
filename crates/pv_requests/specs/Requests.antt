-- The request that a line of sysusers.d(5) spells, or its first fault. Faults are found in this order: the fields,
-- the type, a missing field, specifiers from the left, names, IDs or ranges, and texts.
use Rattle.std.specs.Prelude.{ℕ, Bool, true, false, ◌&&◌, List, codes, Result, Ok, Err, if◌then◌else◌}
use Rattle.pv_path.specs.Names.{same_bytes}
use Rattle.pv_path.specs.Results.{◌>>=◌, in_words, or_fault}
use Rattle.pv_text.specs.Facts.{Values}
use Rattle.pv_text.specs.Fields.{Cut, fields_of}
use Rattle.pv_text.specs.declared.place.Place.{Place}
use Rattle.pv_requests.specs.FieldTexts.{given, has_more, is_dash, text, written}
use Rattle.pv_requests.specs.Names.{is_account_name, is_comment, is_place}
use Rattle.pv_requests.specs.Numbers.{group_id_in, range_in, user_id_in}
use Rattle.pv_requests.specs.declared.request_fault.RequestFault.{RequestFault}
use Rattle.pv_requests.specs.declared.request_fault.RequestFault.TheVariants as fault
use Rattle.pv_requests.specs.declared.read.LineType.{LineType}
use Rattle.pv_requests.specs.declared.read.LineType.TheVariants as line
use Rattle.pv_requests.specs.declared.read.UserTexts.{UserTexts}
use Rattle.pv_requests.specs.declared.request.Request.{Request}
use Rattle.pv_requests.specs.declared.request.Request.TheVariants as request

-- The type that a text names: `u`, `u!`, `g`, `m` or `r`.
abbrev pub type_of : List ℕ → Result LineType RequestFault
type_of text =
    if same_bytes text (codes "u") then Ok (line.User false)
    else if same_bytes text (codes "u!") then Ok (line.User true)
    else if same_bytes text (codes "g") then Ok line.Group
    else if same_bytes text (codes "m") then Ok line.Member
    else if same_bytes text (codes "r") then Ok line.Range
    else Err fault.BadType

-- A request, or the fault BadField if there is a field after the shell.
abbrev pub ended : Bool → Request → Result Request RequestFault
ended more request = if more then Err fault.BadField else Ok request

-- The texts of a `u` line, with their specifiers expanded, or the first fault from the left. GECOS, home directory
-- and shell may be omitted.
abbrev pub user_texts : Values → Cut → Result UserTexts RequestFault
user_texts facts cut =
    written facts cut 1 >>= (λ name.
    written facts cut 2 >>= (λ id.
    given facts cut 3 >>= (λ gecos.
    given facts cut 4 >>= (λ home.
    given facts cut 5 >>= (λ shell.
    Ok (record { name = name; id = id; gecos = gecos; home = home; shell = shell }))))))

-- Whether an account may have these texts.
abbrev pub are_account_texts : UserTexts → Bool
are_account_texts texts = is_comment texts.gecos && is_place texts.home && is_place texts.shell

-- The request of a `u` line with these texts, or its first fault: BadName, BadId, or BadField.
abbrev pub user_with : Place → Bool → Bool → UserTexts → Result Request RequestFault
user_with place locked more texts =
    if is_account_name texts.name then
    or_fault fault.BadId (user_id_in texts.id) >>= (λ id.
    if are_account_texts texts then ended more (request.User texts.name id locked texts.gecos texts.home texts.shell place)
    else Err fault.BadField)
    else Err fault.BadName

-- The request of a `g` line with this name and ID, or its first fault: BadName, BadId, or BadField.
abbrev pub group_with : Place → Bool → List ℕ → List ℕ → Result Request RequestFault
group_with place more name id =
    if is_account_name name then
    or_fault fault.BadId (group_id_in id) >>= (λ id. ended more (request.Group name id place))
    else Err fault.BadName

-- The request of an `m` line with this user and group, or its first fault: BadName, or BadField.
abbrev pub member_with : Place → Bool → List ℕ → List ℕ → Result Request RequestFault
member_with place more user group =
    if is_account_name user && is_account_name group then ended more (request.Member user group place) else Err fault.BadName

-- The request of an `r` line with this name, which must be a dash, and this range. Its faults are BadName, BadRange
-- and BadField, in this order.
abbrev pub range_with : Place → Bool → List ℕ → List ℕ → Result Request RequestFault
range_with place more name range =
    if is_dash name then
    or_fault fault.BadRange (range_in range) >>= (λ numbers. ended more (request.Range numbers.0 numbers.1 place))
    else Err fault.BadName

-- The name and the ID of a line, with their specifiers expanded, or the first fault.
abbrev pub two_texts : Values → Cut → Result (List ℕ × List ℕ) RequestFault
two_texts facts cut = written facts cut 1 >>= (λ name. written facts cut 2 >>= (λ id. Ok (name, id)))

-- The same for a line whose ID must not be omitted. Otherwise the fault is MissingField.
abbrev pub two_needed : Values → Cut → Result (List ℕ × List ℕ) RequestFault
two_needed facts cut = if is_dash (text cut 2) then Err fault.MissingField else two_texts facts cut

-- The request of a line of this type, or its first fault.
abbrev pub request_by : Values → Place → Cut → LineType → Result Request RequestFault
request_by facts place cut (line.User locked) = user_texts facts cut >>= user_with place locked (has_more cut)
request_by facts place cut line.Group = two_texts facts cut >>= (λ texts. group_with place (has_more cut) texts.0 texts.1)
request_by facts place cut line.Member = two_needed facts cut >>= (λ texts. member_with place (has_more cut) texts.0 texts.1)
request_by facts place cut line.Range = two_needed facts cut >>= (λ texts. range_with place (has_more cut) texts.0 texts.1)

-- The request of a line with these fields, or its first fault.
abbrev pub request_in : Values → Place → Cut → Result Request RequestFault
request_in facts place cut = type_of (text cut 0) >>= request_by facts place cut

-- The request that a line at a location (file and line) spells, or its first fault.
abbrev pub request_of : Values → Place → List ℕ → Result Request RequestFault
request_of facts place bytes =
    in_words (λ f. fault.Field f) (fields_of bytes) >>= (λ spans. request_in facts place (record { line = bytes; spans = spans }))
