-- Where a name keeps its bytes. No public clause cites this module.
use Rattle.std.specs.Prelude.{◌≡◌, ℕ, ◌<◌, ◌≤◌, List, take, length, slice_index}
use Rattle.pv_path.specs.declared.short_bytes.Form.{Form}
use Rattle.pv_path.specs.declared.short_bytes.Form.TheVariants.{Here, Apart}

-- The bytes of a name: the first `count` bytes of the array inside it, or all bytes of memory of its own.
abbrev pub bytes_in : Form → List ℕ
bytes_in (Here count place) = take count place
bytes_in (Apart bytes) = bytes.items

-- The array inside a name has room for its bytes, and zeros follow them. Memory of its own holds more bytes than the
-- array has room for.
abbrev pub HasPlace : Form → Type 0
HasPlace (Here count place) = (count ≤ 16) × ((i : ℕ) → count ≤ i → slice_index place i ≡ 0)
HasPlace (Apart bytes) = 16 < length bytes.items
