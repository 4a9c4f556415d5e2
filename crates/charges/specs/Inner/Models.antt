-- The number that stands in a call for its model, and the field that a model divides by.
use Rattle.std.specs.Prelude.{true, ◌≡◌, ℕ, Result, MatchResult}
use Rattle.sheet.specs.declared.refusal.Refusal.{Refusal}
use Rattle.sheet.specs.declared.refusal.Refusal.TheVariants.{HeaderField}
use Rattle.sheet.specs.declared.rows.Field.{Field}
use Rattle.sheet.specs.declared.rows.Field.TheVariants.{HeatedArea, HeatLoad}
use Rattle.charges.specs.declared.models.ChargeModel.{ChargeModel}
use Rattle.charges.specs.declared.models.ChargeModel.TheVariants.{ByLoad, ByArea}
use Rattle.charges.specs.Answer.{other_model}

abbrev pub model_code : ChargeModel → ℕ
model_code ByLoad = 1  -- 1S
model_code ByArea = 2  -- 2S

-- q under 1S, p under 2S
abbrev pub field_by : ChargeModel → Field
field_by ByLoad = HeatLoad
field_by ByArea = HeatedArea

-- a number decodes to the model that it stands for; 4 where it stands for none
abbrev pub DecodesModel : ℕ → Result ChargeModel Refusal → Type 0
DecodesModel code r = MatchResult r (λ m. model_code m ≡ code) (λ e. (e ≡ HeaderField 0) × (other_model code ≡ true))
