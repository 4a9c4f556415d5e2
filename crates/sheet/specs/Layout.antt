-- The sheet, one building month in bytes (document 01, "The sheet"). Numbers are little-endian.
use Rattle.std.specs.Prelude.{List, [], ◌∷◌, ◌++◌, map, ℕ, zero, suc, ◌+◌, ◌*◌, ◌/◌, ◌%◌, get_or, take, drop}

-- the number in one, two or four bytes from byte `at` on; 0 stands past the end
abbrev pub byte : List ℕ → ℕ → ℕ
byte bytes at = get_or bytes at 0

abbrev pub le16 : List ℕ → ℕ → ℕ
le16 bytes at = byte bytes at + 256 * byte bytes (at + 1)

abbrev pub le32 : List ℕ → ℕ → ℕ
le32 bytes at = byte bytes at + 256 * byte bytes (at + 1) + 65536 * byte bytes (at + 2) + 16777216 * byte bytes (at + 3)

-- a number in two and in four bytes, and numbers in four bytes each
abbrev pub bytes16 : ℕ → List ℕ
bytes16 x = x % 256 ∷ x / 256 % 256 ∷ []

abbrev pub bytes32 : ℕ → List ℕ
bytes32 x = x % 256 ∷ x / 256 % 256 ∷ x / 65536 % 256 ∷ x / 16777216 % 256 ∷ []

unfoldable pub in_bytes : List ℕ → List ℕ
in_bytes [] = []
in_bytes (x ∷ xs) = bytes32 x ++ in_bytes xs

-- A unit row, 32 bytes: each field with its bytes and the document's symbol.
pub record UnitRow : Type 0 where
  pub id : ℕ  -- 0–3
  pub status : ℕ  -- 4: 0 read; 1 no device; 2, 3 technical fault, first and next month; 4 the same fault later
  pub water_class : ℕ  -- 5: 0 none; 1 by volume (1EV); 2 by persons (2EV)
  pub location_factor : ℕ  -- 6–7: KF, thousandths
  pub heated_area : ℕ  -- 8–11: p, 0.1 m²
  pub riser_surface : ℕ  -- 12–15: s, dm²
  pub heat_load : ℕ  -- 16–19: q, W
  pub reading : ℕ  -- 20–23: b, impulses (models 3, 4) or Wh (model 5)
  pub litres : ℕ  -- 24–27: hot water
  pub persons : ℕ  -- 28–29
  pub reserved : ℕ  -- 30–31: zero

unfoldable pub unit_row : List ℕ → UnitRow
unit_row row = record {
  id = le32 row 0;
  status = byte row 4;
  water_class = byte row 5;
  location_factor = le16 row 6;
  heated_area = le32 row 8;
  riser_surface = le32 row 12;
  heat_load = le32 row 16;
  reading = le32 row 20;
  litres = le32 row 24;
  persons = le16 row 28;
  reserved = le16 row 30;
}

-- n rows of 32 bytes, one after the other
unfoldable pub rows : ℕ → List ℕ → List (List ℕ)
rows zero bytes = []
rows (suc n) bytes = take 32 bytes ∷ rows n (drop 32 bytes)

-- The header, 48 bytes, with bytes and symbols as above, and the units behind it.
pub record Sheet : Type 0 where
  pub magic : List ℕ  -- 0–3: `HCS`, 0
  pub version : ℕ  -- 4–5: 1
  pub month : ℕ  -- 6
  pub model : ℕ  -- 7: 1 1EG; 2 2EG; 3 3EG-R-P; 4 3EG-R-V; 5 3EG-K
  pub unit_count : ℕ  -- 8–9: n
  pub water_source : ℕ  -- 10: hot water 0 none; 1 by a meter; 2 by the cold water heated; 3 by summer readings
  pub base_percent : ℕ  -- 11: v
  pub common_heat_percent : ℕ  -- 12: z
  pub common_water_percent : ℕ  -- 13: y
  pub unmetered_factor : ℕ  -- 14: f, tenths
  pub loss_factor : ℕ  -- 15: t, hundredths
  pub shared_meter : ℕ  -- 16–19: M, Wh
  pub price : ℕ  -- 20–23: 0.00001 EUR per kWh
  pub water_readings : List ℕ  -- 24–47: h1 .. h6, Wh; of source 2 h1 in litres
  pub units : List UnitRow  -- from 48 on

-- h1 .. h6, from k = 0 on
abbrev pub water_reading : Sheet → ℕ → ℕ
water_reading s k = get_or s.water_readings k 0

unfoldable pub sheet_of : List ℕ → Sheet
sheet_of bytes = record {
  magic = take 4 bytes;
  version = le16 bytes 4;
  month = byte bytes 6;
  model = byte bytes 7;
  unit_count = le16 bytes 8;
  water_source = byte bytes 10;
  base_percent = byte bytes 11;
  common_heat_percent = byte bytes 12;
  common_water_percent = byte bytes 13;
  unmetered_factor = byte bytes 14;
  loss_factor = byte bytes 15;
  shared_meter = le32 bytes 16;
  price = le32 bytes 20;
  water_readings = le32 bytes 24 ∷ le32 bytes 28 ∷ le32 bytes 32 ∷ le32 bytes 36 ∷ le32 bytes 40 ∷ le32 bytes 44 ∷ [];
  units = map unit_row (rows (le16 bytes 8) (drop 48 bytes));
}
