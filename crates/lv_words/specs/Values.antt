-- What the values of the options set.
use Rattle.std.specs.Prelude.{ℕ, Bool, false, not, ◌&&◌, ◌==◌, nat_le, if◌then◌else◌, List, length, Option, Some, None, is_some, option_map, option_and_then, codes}
use Rattle.std.specs.List.{list_all}
use Rattle.std.specs.Option.{option_map_or}
use Rattle.std.specs.Str.{bytes_eq}
use Rattle.std.specs.Str.Parse.{digits_value}
use Rattle.std.specs.Char.{is_ascii_digit}
use Rattle.lv_words.specs.declared.words.Words.{Words}

abbrev pub Text : Type 0
Text = List ℕ

-- 1 to 10 decimal digits
abbrev pub has_digits : Text → Bool
has_digits text = not (length text == 0) && (nat_le (length text) 10 && list_all is_ascii_digit text)

-- the number that they write
abbrev pub number_of : Text → Option ℕ
number_of text = if has_digits text then Some (digits_value 10 text) else None

-- the number, where it lies in a range
abbrev pub within : ℕ → ℕ → ℕ → Option ℕ
within low high n = if nat_le low n && nat_le n high then Some n else None

abbrev pub number_in : ℕ → ℕ → Text → Option ℕ
number_in low high text = option_and_then (within low high) (number_of text)

-- the value of an option that may be left out
abbrev pub number_or : ℕ → ℕ → ℕ → Option Text → Option ℕ
number_or low high otherwise None = Some otherwise
number_or low high otherwise (Some text) = number_in low high text

-- the kind of a policy by its name
abbrev pub policy_of : Text → Option ℕ
policy_of name =
    if bytes_eq name (codes "oldest") then Some 0
    else (if bytes_eq name (codes "most") then Some 1 else (if bytes_eq name (codes "first") then Some 2 else None))

abbrev pub policy_or : Option Text → Option ℕ
policy_or None = Some 0
policy_or (Some name) = policy_of name

-- a path that is not empty, or none
abbrev pub path_or : Option Text → Option (Option Text)
path_or None = Some None
path_or (Some path) = if length path == 0 then None else Some (Some path)

-- the statements of a made script, or none
abbrev pub make_or : Option Text → Option (Option ℕ)
make_or None = Some None
make_or (Some text) = option_map (λ n. Some n) (number_in 1 65536 text)

-- a flag that stands there
abbrev pub is_on : Option Text → Bool
is_on given = option_map_or (λ t. bytes_eq t (codes "true")) given false

-- a made script is not run in threads
abbrev pub together : Words → Option Words
together w = if w.threads && is_some w.make then None else Some w

-- what the values set, but for the path of the journal
abbrev pub numbers : (Text → Option Text) → Option Words
numbers given =
    option_and_then (λ workers.
    option_and_then (λ turns.
    option_and_then (λ combine.
    option_and_then (λ policy.
    option_and_then (λ log_limit.
    option_and_then (λ make. together (record {
      threads = is_on (given (codes "threads"));
      workers = workers;
      turns = turns;
      combine = combine;
      policy = policy;
      log = None;
      log_limit = log_limit;
      make = make;
    }))
    (make_or (given (codes "make"))))
    (number_or 9 4294967295 1073741824 (given (codes "log-limit"))))
    (policy_or (given (codes "policy"))))
    (number_or 1 64 16 (given (codes "combine"))))
    (number_or 0 10000 10000 (given (codes "turns"))))
    (number_or 0 8 2 (given (codes "workers")))

-- what the values that are given set; none where one of them is refused
abbrev pub settings : (Text → Option Text) → Option Words
settings given =
    option_and_then (λ words. option_map (λ path. record words { log = path }) (path_or (given (codes "log")))) (numbers given)
