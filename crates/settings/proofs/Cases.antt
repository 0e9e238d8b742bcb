-- The worked cases hold by computation.
use mathlib.Core.Path.{refl}
use Rattle.tables.specs.Least.{least_from}
use Rattle.road.specs.Step.{discharge, sending, exit, through, offer, receiving, passed, merge, flows_with}
use Rattle.settings.specs.Rate.{full_flows, gives, rate_for}
use Rattle.settings.specs.Setting.{held_limit, setting_for}
use Rattle.settings.specs.Cases.{Cases}

pub cases : Cases
unfolding least_from discharge sending exit through offer receiving passed merge flows_with full_flows gives rate_for held_limit setting_for
cases =
    record {
      case_1_sending = refl;
      case_1_total = refl;
      case_1_supply = refl;
      case_1 = refl;
      case_2 = refl;
      case_2_below = refl;
      case_3 = refl;
      case_3_below = refl;
      case_4 = refl;
      case_6 = refl;
      case_7 = refl;
      case_8 = refl;
      case_9 = refl;
      case_9_full = refl;
      case_10 = refl;
    }
