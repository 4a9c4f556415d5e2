-- How many bytes of its input the program needs.
use Rattle.std.specs.Prelude.{◌≡◌, List, ℕ, ◌≤◌, length, take}
use Rattle.printing.specs.Printed.{printed}

-- The longest sheet has 5,168 bytes. Of a longer input the first 5,169 print what all of it prints.
abbrev pub FirstBytesDecide : Type 0
FirstBytesDecide = (bytes : List ℕ) → 5169 ≤ length bytes → printed (take 5169 bytes) ≡ printed bytes
