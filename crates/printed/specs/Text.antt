-- The text that the program prints, in ASCII. "First line: steps, nodes, cost. Others: step, identifier, rate, limit, F full or H held. A refusal
-- prints `REFUSED`, number, row, node." Every line ends in a line feed.
use Rattle.std.specs.Prelude.{ℕ, zero, suc, ◌+◌, ◌/◌, ◌%◌, cond, List, [], ◌∷◌, ◌++◌, ltb}
use Rattle.tables.specs.Answer.{Answer}
use Rattle.tables.specs.Answer.{Accepted, Refused}
use Rattle.road.specs.Corridor.{Road, Trace}
use Rattle.road.specs.Run.{cost}
use Rattle.settings.specs.declared.Setting.{Setting}
use Rattle.settings.specs.declared.Setting.TheVariants.{Full, Held}
use Rattle.settings.specs.Setting.{rate_in, limit_in}
use Rattle.lists.specs.Words.{node_at, road_of, trace_of}
use Rattle.convert.specs.Convert.{setting_at}
use Rattle.file_rows.specs.Words.{corridor_in, demands_in, file_width, record_in}
use Rattle.printed.specs.Input.{links_in, steps_in, corridor_file, demands_file, record_file, input_answer}

-- ---- numbers

-- a number below 10 ^ (1 + more)
unfoldable pub decimal_in : ℕ → ℕ → List ℕ
decimal_in zero n = (48 + n % 10) ∷ []
decimal_in (suc more) n = cond (ltb n 10) ((48 + n) ∷ []) (decimal_in more (n / 10) ++ ((48 + n % 10) ∷ []))

-- a number below 10 ^ 20 in decimal
unfoldable pub decimal : ℕ → List ℕ
decimal n = decimal_in 19 n

-- after a space
unfoldable pub spaced : ℕ → List ℕ
spaced n = 32 ∷ decimal n

-- ---- words

-- PLAN
unfoldable pub plan_word : List ℕ
plan_word = 80 ∷ 76 ∷ 65 ∷ 78 ∷ []

-- REFUSED
unfoldable pub refused_word : List ℕ
refused_word = 82 ∷ 69 ∷ 70 ∷ 85 ∷ 83 ∷ 69 ∷ 68 ∷ []

-- F or H
unfoldable pub letter : Setting → ℕ
letter (Full rate) = 70
letter (Held rate limit) = 72

-- ---- lines

unfoldable pub refused_line : ℕ → ℕ → ℕ → List ℕ
refused_line number row node = refused_word ++ (spaced number ++ (spaced row ++ (spaced node ++ (10 ∷ []))))

-- the road and the trace that the input's files say
unfoldable pub input_road : List ℕ → Road
input_road input = road_of (corridor_in (links_in input) (corridor_file input)) (demands_in (links_in input) (steps_in input) (demands_file input))

unfoldable pub input_trace : List ℕ → Trace
input_trace input =
    trace_of (file_width (record_file input)) (input_road input) (record_in (file_width (record_file input)) (links_in input) (steps_in input) (record_file input))

-- steps, nodes, cost
unfoldable pub head_line : List ℕ → List ℕ
head_line input =
    plan_word ++ (spaced (steps_in input) ++ (spaced (links_in input + 1) ++ (spaced (cost (input_road input) (input_trace input)) ++ (10 ∷ []))))

-- step k, node i: step, identifier, rate, limit, F or H
unfoldable pub setting_line : ℕ → ℕ → ℕ → Setting → List ℕ
setting_line k identifier full_speed setting =
    decimal k ++ (spaced identifier ++ (spaced (rate_in setting) ++ (spaced (limit_in full_speed setting) ++ (32 ∷ letter setting ∷ 10 ∷ []))))

-- of three files, told N and K
unfoldable pub files_line : ℕ → ℕ → List ℕ → List ℕ → List ℕ → ℕ → ℕ → List ℕ
files_line links steps corridor demands recorded k i =
    setting_line k (node_at (corridor_in links corridor) i).identifier (node_at (corridor_in links corridor) i).link.full_speed
    (setting_at (road_of (corridor_in links corridor) (demands_in links steps demands))
    (trace_of (file_width recorded) (road_of (corridor_in links corridor) (demands_in links steps demands)) (record_in (file_width recorded) links steps recorded)) k i)

unfoldable pub plan_line : List ℕ → ℕ → ℕ → List ℕ
plan_line input k i =
    setting_line k ((input_road input).node i).identifier ((input_road input).node i).link.full_speed (setting_at (input_road input) (input_trace input) k i)

-- ---- all of it

-- lines 0..n − 1, one after another
unfoldable pub lines_of : ℕ → (ℕ → List ℕ) → List ℕ
lines_of zero line = []
lines_of (suc n) line = lines_of n line ++ line n

-- the lines of step k, node by node
unfoldable pub step_text : List ℕ → ℕ → List ℕ
step_text input k = lines_of (links_in input + 1) (plan_line input k)

-- those of an accepted input: the first line, then step by step
unfoldable pub plan_text : List ℕ → List ℕ
plan_text input = head_line input ++ lines_of (steps_in input) (step_text input)

abbrev pub text_for : Answer → List ℕ → List ℕ
text_for Accepted input = plan_text input
text_for (Refused number row node) input = refused_line number row node

-- what the program prints for an input
unfoldable pub printed : List ℕ → List ℕ
printed input = text_for (input_answer input) input
