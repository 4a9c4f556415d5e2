-- The number that stands in a sheet for a model, a hot-water source, a status and a water class (document 01, "The sheet").
use Rattle.std.specs.Prelude.{◌≡◌, ℕ, ◌≤◌, ◌<◌, Result, MatchResult}
use Rattle.sheet.specs.declared.codes.Model.{Model}
use Rattle.sheet.specs.declared.codes.Model.TheVariants.{ByLoad, ByArea, ByAllocatorsAndArea, ByAllocatorsAndRisers, ByMeters}
use Rattle.sheet.specs.declared.codes.WaterSource.{WaterSource}
use Rattle.sheet.specs.declared.codes.WaterSource.TheVariants.{NoWater, Meter, HeatedColdWater, SummerReadings}
use Rattle.sheet.specs.declared.codes.Status.{Status}
use Rattle.sheet.specs.declared.codes.Status.TheVariants.{Read, NoDevice, FirstFault, NextFault, LaterFault}
use Rattle.sheet.specs.declared.codes.WaterClass.{WaterClass}
use Rattle.sheet.specs.declared.codes.WaterClass.TheVariants.{NoClass, ByVolume, ByPersons}
use Rattle.sheet.specs.declared.codes.UnknownCode.{UnknownCode}

abbrev pub model_code : Model → ℕ
model_code ByLoad = 1  -- 1EG
model_code ByArea = 2  -- 2EG
model_code ByAllocatorsAndArea = 3  -- 3EG-R-P
model_code ByAllocatorsAndRisers = 4  -- 3EG-R-V
model_code ByMeters = 5  -- 3EG-K

abbrev pub source_code : WaterSource → ℕ
source_code NoWater = 0
source_code Meter = 1
source_code HeatedColdWater = 2
source_code SummerReadings = 3

abbrev pub status_code : Status → ℕ
status_code Read = 0
status_code NoDevice = 1
status_code FirstFault = 2
status_code NextFault = 3
status_code LaterFault = 4

abbrev pub class_code : WaterClass → ℕ
class_code NoClass = 0
class_code ByVolume = 1  -- 1EV
class_code ByPersons = 2  -- 2EV

-- A number decodes to the kind that it stands for; an error means that it stands for none.
abbrev pub DecodesModel : ℕ → Result Model UnknownCode → Type 0
DecodesModel code r = MatchResult r (λ m. model_code m ≡ code) (λ e. (e.0 ≡ code) × (1 ≤ code → 5 < code))

abbrev pub DecodesSource : ℕ → Result WaterSource UnknownCode → Type 0
DecodesSource code r = MatchResult r (λ w. source_code w ≡ code) (λ e. (e.0 ≡ code) × (3 < code))

abbrev pub DecodesStatus : ℕ → Result Status UnknownCode → Type 0
DecodesStatus code r = MatchResult r (λ s. status_code s ≡ code) (λ e. (e.0 ≡ code) × (4 < code))

abbrev pub DecodesClass : ℕ → Result WaterClass UnknownCode → Type 0
DecodesClass code r = MatchResult r (λ c. class_code c ≡ code) (λ e. (e.0 ≡ code) × (2 < code))
