-- Demand 3, over lists of words.
use mathlib.Core.List.{List}
use lib.ListN.{length}
use mathlib.Core.Path.{◌≡◌, refl, sym, ap, ◌∙◌}
use Rattle.tables.specs.Answer.{Accepted}
use Rattle.lists.specs.Words.{links_of, steps_of}
use Rattle.lengths.specs.Lengths.{record_sized}
use Rattle.list_scans.specs.Refusals.{limits}
use Rattle.simulate.specs.Simulate.{simulated}
use Rattle.convert.specs.Convert.{normal_form}
use Rattle.convert.proofs.Normal.{simulated_fits, simulated_sized}
use Prim.Native.Nat.{ℕ}
use Rattle.demands.specs.Demand3.{Demand3}
use Rattle.demands.proofs.Demand3Laws.{normal_same_iff, normal_accepted_iff, convert_answer_lem, valid_accepted, accepted_iff_valid, returned_plan}

pub demand3 : (corridor demands : List ℕ) → limits corridor demands ≡ Accepted → Demand3 corridor demands
unfolding normal_form
demand3 corridor demands within =
    record {
      same_normal_form_iff_same_record = normal_same_iff corridor demands within;
      normal_form_is_the_converted_record = λ width wide plan v. (
        (normal_accepted_iff corridor demands within plan _ _
            (ap (record_sized (links_of corridor) (steps_of demands)) (sym (simulated_fits width corridor demands plan)) ∙ simulated_sized width corridor demands plan wide) refl).1 v,
        convert_answer_lem corridor demands within (simulated width corridor demands plan) _ refl ∙ valid_accepted corridor demands within width wide plan v,
        refl,
      );
      returned_iff_some_valid_plan = λ words lent e. rw (convert_answer_lem corridor demands within words (length lent) e) (accepted_iff_valid corridor demands within words);
      returned = λ words lent e a. returned_plan corridor demands within words (sym (convert_answer_lem corridor demands within words (length lent) e) ∙ a);
    }
