-- Drawn runs and evictions: what the words of a generator make.
use Rattle.std.specs.Prelude.{ℕ, ◌+◌, ◌-◌, ◌*◌, ◌/◌, ◌%◌, ◌^◌, List, [], ◌∷◌, ◌++◌, replicate, count_by, slice_index, nat_lt, ◌==◌, if◌then◌else◌}
use Rattle.rand_core.specs.Steps.{first_words}
use Rattle.rand_xoshiro.specs.SplitMix64.{mix_u64}
use Rattle.machine_events.specs.declared.event.Event.{Event}
use Rattle.machine_events.specs.declared.event.Event.TheVariants.{Step, Evict, Crash}
use Rattle.ido_base.specs.declared.limits.TheConstants.{VARIABLE_LINES}
use Rattle.log_schemes.specs.declared.log.Log.{Log}
use Rattle.log_schemes.specs.Layout.{log_lines}

-- the line that a word of 64 bits draws, of so many lines of variables and of the logs of so many threads
abbrev pub drawn_line : Log → (threads lines word : ℕ) → ℕ
drawn_line log threads lines word =
    let k = word / 2 ^ 8 % (lines + log_lines log * threads) in
    if nat_lt k lines then k else VARIABLE_LINES + (k - lines)

-- the words of that line that it draws
abbrev pub drawn_mask : (word : ℕ) → ℕ
drawn_mask word = word / 2 ^ 40 % 256

-- the event that a word draws: one word of sixteen draws an eviction, each other a step
unfoldable pub drawn_event : Log → (threads lines word : ℕ) → Event
drawn_event log threads lines word =
    if word % 16 == 15 then Evict (drawn_line log threads lines word) (drawn_mask word) else Step (word / 2 ^ 8 % threads)

-- crashes after so many draws: one for each crash word that is this number
abbrev pub crashes_at : (crashes : List ℕ) → (draws : ℕ) → List Event
crashes_at crashes draws = replicate (count_by (λ c. c == draws) crashes) Crash

-- the events from so many draws on, of which these are the words of the further ones
unfoldable pub events_from : (crashes : List ℕ) → Log → (threads lines draws : ℕ) → (words : List ℕ) → List Event
events_from crashes log threads lines draws [] = crashes_at crashes draws
events_from crashes log threads lines draws (w ∷ ws) =
    crashes_at crashes draws ++ drawn_event log threads lines w ∷ events_from crashes log threads lines (draws + 1) ws

-- the first so many words of SplitMix64 from a seed on
abbrev pub drawn_words : (seed turns : ℕ) → List ℕ
drawn_words seed turns = first_words mix_u64 turns seed

-- so many draws, at so many threads and lines of variables; a crash word that is greater than that brings none. Without threads nothing is drawn.
unfoldable pub drawn_run : (seed turns : ℕ) → (crashes : List ℕ) → Log → (threads lines : ℕ) → List Event
drawn_run seed turns crashes log threads lines = if threads == 0 then [] else events_from crashes log threads lines 0 (drawn_words seed turns)

-- the word after so many words of SplitMix64 from a seed on
abbrev pub drawn_word : (seed n : ℕ) → ℕ
drawn_word seed n = slice_index (drawn_words seed (n + 1)) n

-- the line and the mask that a word draws where each word draws an eviction
abbrev pub drawn_eviction : Log → (threads lines word : ℕ) → ℕ × ℕ
drawn_eviction log threads lines word = (drawn_line log threads lines word, drawn_mask word)

-- the eviction after so many evictions of a seed: each word of SplitMix64 draws one
unfoldable pub drawn_evictions : (seed : ℕ) → Log → (threads lines n : ℕ) → ℕ × ℕ
drawn_evictions seed log threads lines n = drawn_eviction log threads lines (drawn_word seed n)
