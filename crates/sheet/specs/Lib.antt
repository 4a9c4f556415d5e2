-- The sheet: layout, ranges, refusals 1 to 7 (document 01, "The sheet", "Refused sheets and calls"); what calls share: refusals, rules by archive version, lists of calls.
pub mod Tests
pub mod Refusals
pub mod Chains
pub mod RuleSets
pub mod Layout
pub mod Check
pub mod WattHours
pub mod Inner
pub mod Cases
