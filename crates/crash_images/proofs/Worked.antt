-- What the definitions compute.
use Rattle.std.specs.Prelude.{◌≡◌, ℕ, List, [], ◌∷◌, ◌++◌, length, replicate, take, drop, refl, Ok, Err}
use Rattle.file_fields.specs.Fields.{Magic, Version, Cut, Field, Rest, number_at, word_at, number_within, repeated, magic_at, version_at}
use Rattle.crash_images.specs.Contents.{Contents, contents}
use Rattle.crash_images.specs.ImageEncoder.{spelling}
use Rattle.crash_images.specs.ImageDecoder.{life_at, lives_at, logs_at, run_at, source_at, size_at, state_at, image_at, variables_at, version_in}
use Rattle.crash_images.specs.declared.version.ImageVersion.TheVariants.{First, Second, Third, Fourth}

-- the source `x`, one word of variables, no log, and three steps
small : Contents
small = contents (0x78 ∷ []) (0x0807_0605_0403_0201 ∷ []) [] ((0 ∷ 0 ∷ 1 ∷ []) ∷ [])

head_bytes : List ℕ
head_bytes = 0x49 ∷ 0x44 ∷ 0x4F ∷ 0x2D ∷ 0x49 ∷ 0x4D ∷ 0x47 ∷ 0x0A ∷ 1 ∷ 0 ∷ 0 ∷ 0 ∷ []

source_bytes : List ℕ
source_bytes = 1 ∷ 0 ∷ 0 ∷ 0 ∷ 0x78 ∷ []

state_bytes : List ℕ
state_bytes = 8 ∷ 0 ∷ 0 ∷ 0 ∷ 1 ∷ 2 ∷ 3 ∷ 4 ∷ 5 ∷ 6 ∷ 7 ∷ 8 ∷ 2 ∷ 0 ∷ 0 ∷ 0 ∷ 0 ∷ 0 ∷ 0 ∷ 0 ∷ 2 ∷ 0 ∷ 0 ∷ 0 ∷ 1 ∷ 0 ∷ 0 ∷ 0 ∷ 1 ∷ 0 ∷ 0 ∷ 0 ∷ []

small_spelled : spelling First small ≡ head_bytes ++ source_bytes ++ state_bytes
unfolding small head_bytes source_bytes state_bytes
small_spelled = refl

small_read : image_at First 8 0 (head_bytes ++ source_bytes ++ state_bytes) ≡ Ok small
unfolding small head_bytes source_bytes state_bytes image_at source_at state_at variables_at logs_at lives_at life_at size_at number_within magic_at
    version_at repeated run_at
    word_at number_at
small_read = refl

-- ---- Several lives

-- version 3, of a life of three steps, one of none, and one of a step
lived : Contents
lived = contents (0x78 ∷ []) (0x0807_0605_0403_0201 ∷ []) [] ((0 ∷ 0 ∷ 1 ∷ []) ∷ [] ∷ (1 ∷ []) ∷ [])

third_head : List ℕ
third_head = 0x49 ∷ 0x44 ∷ 0x4F ∷ 0x2D ∷ 0x49 ∷ 0x4D ∷ 0x47 ∷ 0x0A ∷ 3 ∷ 0 ∷ 0 ∷ 0 ∷ []

memory_bytes : List ℕ
memory_bytes = 8 ∷ 0 ∷ 0 ∷ 0 ∷ 1 ∷ 2 ∷ 3 ∷ 4 ∷ 5 ∷ 6 ∷ 7 ∷ 8 ∷ []

-- three lives; two runs, none and one
lives_bytes : List ℕ
lives_bytes =
    3 ∷ 0 ∷ 0 ∷ 0 ∷ 2 ∷ 0 ∷ 0 ∷ 0 ∷ 0 ∷ 0 ∷ 0 ∷ 0 ∷ 2 ∷ 0 ∷ 0 ∷ 0 ∷ 1 ∷ 0 ∷ 0 ∷ 0 ∷ 1 ∷ 0 ∷ 0 ∷ 0 ∷ 0 ∷ 0 ∷ 0 ∷ 0
    ∷ 1 ∷ 0 ∷ 0 ∷ 0 ∷ 1 ∷ 0 ∷ 0 ∷ 0 ∷ 1 ∷ 0 ∷ 0 ∷ 0 ∷ []

lived_spelled : spelling Third lived ≡ third_head ++ source_bytes ++ memory_bytes ++ lives_bytes
unfolding lived third_head source_bytes memory_bytes lives_bytes
lived_spelled = refl

lived_read : image_at Third 8 0 (third_head ++ source_bytes ++ memory_bytes ++ lives_bytes) ≡ Ok lived
unfolding lived third_head source_bytes memory_bytes lives_bytes image_at source_at state_at variables_at logs_at lives_at life_at size_at number_within
    magic_at version_at
    repeated run_at word_at number_at
lived_read = refl

-- no life, and bytes after it: the field is the first fault
no_life : state_at Third 34 8 0 (memory_bytes ++ 0 ∷ 0 ∷ 0 ∷ 0 ∷ 0 ∷ []) ≡ Err (Field 29)
unfolding memory_bytes state_at variables_at logs_at lives_at life_at size_at number_within repeated run_at word_at number_at
no_life = refl

cut_inside_the_count : state_at Third 31 8 0 (memory_bytes ++ 0 ∷ 0 ∷ []) ≡ Err (Cut 31)
unfolding memory_bytes state_at variables_at logs_at lives_at life_at size_at number_within repeated run_at word_at number_at
cut_inside_the_count = refl

cut_before_the_last_life : state_at Third 37 8 0 (memory_bytes ++ 2 ∷ 0 ∷ 0 ∷ 0 ∷ 0 ∷ 0 ∷ 0 ∷ 0 ∷ []) ≡ Err (Cut 37)
unfolding memory_bytes state_at variables_at logs_at lives_at life_at size_at number_within repeated run_at word_at number_at
cut_before_the_last_life = refl

fourth_head : List ℕ
fourth_head = take 8 head_bytes ++ 4 ∷ 0 ∷ 0 ∷ 0 ∷ []

-- version 4 spells lives as version 3 does
logged_spelled : spelling Fourth lived ≡ fourth_head ++ source_bytes ++ memory_bytes ++ lives_bytes
unfolding lived head_bytes fourth_head source_bytes memory_bytes lives_bytes
logged_spelled = refl

logged_read : image_at Fourth 8 0 (fourth_head ++ source_bytes ++ memory_bytes ++ lives_bytes) ≡ Ok lived
unfolding lived head_bytes fourth_head source_bytes memory_bytes lives_bytes image_at source_at state_at variables_at logs_at lives_at life_at size_at
    number_within magic_at version_at
    repeated run_at word_at number_at
logged_read = refl

-- of 78 bytes of source, one word of variables, one thread, and one life of no step: a log has 2,048 bytes
logged_length : length (spelling Fourth (contents (replicate 78 0x20) (5 ∷ []) (replicate 256 0) ([] ∷ []))) ≡ 2162
logged_length = refl

-- a byte of source more, and steps of that thread: a run
logged_longer : length (spelling Fourth (contents (replicate 79 0x20) (5 ∷ []) (replicate 256 0) ((0 ∷ 0 ∷ 0 ∷ []) ∷ []))) ≡ 2171
logged_longer = refl

no_life_logged : state_at Fourth 34 8 0 (memory_bytes ++ 0 ∷ 0 ∷ 0 ∷ 0 ∷ 0 ∷ []) ≡ Err (Field 29)
unfolding memory_bytes state_at variables_at logs_at lives_at life_at size_at number_within repeated run_at word_at number_at
no_life_logged = refl

-- ---- Versions

newest : version_in Third third_head ≡ Ok Third
unfolding third_head version_in magic_at number_at
newest = refl

too_new : version_in Second third_head ≡ Err Version
unfolding third_head version_in magic_at number_at
too_new = refl

version_two : version_in Third (take 8 head_bytes ++ 2 ∷ 0 ∷ 0 ∷ 0 ∷ []) ≡ Ok Second
unfolding head_bytes version_in magic_at number_at
version_two = refl

newest_of_all : version_in Fourth fourth_head ≡ Ok Fourth
unfolding head_bytes fourth_head version_in magic_at number_at
newest_of_all = refl

older_than_newest : version_in Fourth third_head ≡ Ok Third
unfolding third_head version_in magic_at number_at
older_than_newest = refl

newer_than_newest : version_in Third fourth_head ≡ Err Version
unfolding head_bytes fourth_head version_in magic_at number_at
newer_than_newest = refl

newer_than_all : version_in Fourth (take 8 head_bytes ++ 5 ∷ 0 ∷ 0 ∷ 0 ∷ []) ≡ Err Version
unfolding head_bytes version_in magic_at number_at
newer_than_all = refl

none_of_them : version_in Third (take 8 head_bytes ++ 0 ∷ 1 ∷ 0 ∷ 0 ∷ []) ≡ Err Version
unfolding head_bytes version_in magic_at number_at
none_of_them = refl

-- ---- Faults up to the end of the source

-- fewer than eight bytes are cut, whatever they are
few_bytes : source_at First (1 ∷ 2 ∷ []) ≡ Err (Cut 2)
unfolding source_at magic_at version_at number_within number_at
few_bytes = refl

other_bytes : source_at First (0 ∷ drop 1 head_bytes) ≡ Err Magic
unfolding head_bytes source_at magic_at version_at number_within number_at
other_bytes = refl

other_version : source_at First (take 8 head_bytes ++ 2 ∷ 0 ∷ 0 ∷ 0 ∷ []) ≡ Err Version
unfolding head_bytes source_at magic_at version_at number_within number_at
other_version = refl

cut_inside_the_source : source_at First (head_bytes ++ take 4 source_bytes) ≡ Err (Cut 16)
unfolding head_bytes source_bytes source_at magic_at version_at number_within number_at
cut_inside_the_source = refl

-- 1,048,577 bytes are too many even where they are missing
long_source : source_at First (head_bytes ++ 1 ∷ 0 ∷ 16 ∷ 0 ∷ []) ≡ Err (Field 12)
unfolding head_bytes source_at magic_at version_at number_within number_at
long_source = refl

-- ---- Faults after the source

-- another number of bytes comes before what is missing after it
other_size : state_at First 21 16 0 (take 4 state_bytes) ≡ Err (Field 17)
unfolding state_bytes state_at variables_at logs_at lives_at life_at size_at number_within repeated run_at word_at number_at
other_size = refl

cut_inside_the_size : state_at First 20 8 0 (take 3 state_bytes) ≡ Err (Cut 20)
unfolding state_bytes state_at variables_at logs_at lives_at life_at size_at number_within repeated run_at word_at number_at
cut_inside_the_size = refl

cut_inside_the_last_run : state_at First 48 8 0 (take 31 state_bytes) ≡ Err (Cut 48)
unfolding state_bytes state_at variables_at logs_at lives_at life_at size_at number_within repeated run_at word_at number_at
cut_inside_the_last_run = refl

-- a log has 1,024 bytes
cut_inside_a_log : state_at First 49 8 1 state_bytes ≡ Err (Cut 49)
unfolding state_bytes state_at variables_at logs_at lives_at life_at size_at number_within repeated run_at word_at number_at
cut_inside_a_log = refl

one_byte_more : state_at First 50 8 0 (state_bytes ++ 0 ∷ []) ≡ Err (Rest 49)
unfolding state_bytes state_at variables_at logs_at lives_at life_at size_at number_within repeated run_at word_at number_at
one_byte_more = refl

-- a log has 2,048 bytes
cut_inside_a_longer_log : state_at Fourth 1053 8 1 (memory_bytes ++ replicate 1024 0) ≡ Err (Cut 1053)
unfolding memory_bytes state_at variables_at logs_at lives_at life_at size_at number_within repeated run_at word_at number_at
cut_inside_a_longer_log = refl
