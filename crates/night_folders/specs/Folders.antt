-- The files of one night, each thing twice: as calls see it, and as the device has it; and what can happen to them.
-- Rules.antt has when the program does an operation, Effects.antt what it does. Together they are what is to be believed.
use Rattle.std.specs.Prelude.{Bool, List, ℕ}

-- where the entry of a new file is: nowhere, in the work folder (STATE.night, after the commit STATE.done), at its place
pub data Site : Type 0 where
  nowhere work place : Site

-- what a new file holds: any part of its bytes, or all of them
pub data Text : Type 0 where
  part whole : Text

-- how far the running call is with a file: all that it remembers of it
pub data Step : Type 0 where
  fresh made written saved moved down : Step

-- what the running call is about; idle: no call runs
pub data Phase : Type 0 where
  idle making sealed decided placing clearing undoing : Phase

-- a second call that found STATE.done and works beside it: what it is about (off: there is none), and what it remembers of a file
pub data Help : Type 0 where
  off looking putting leaving : Help

pub data Got : Type 0 where
  todo tried sure : Got

-- one of the night's files
pub record File : Type 0 where
  pub step : Step
  pub got : Got
  pub site : Site
  pub site_down : Site
  pub text : Text
  pub text_down : Text

-- the two names in STATE's folder. past: STATE.done has reached the device (history, no call reads it)
pub record Home : Type 0 where
  pub phase : Phase
  pub help : Help
  pub night : Bool
  pub night_down : Bool
  pub done : Bool
  pub done_down : Bool
  pub past : Bool

pub record Disk : Type 0 where
  pub home : Home
  pub files : List File

-- first the operations of the program, then what the world does
pub data Happening : Type 0 where
  create : Happening  -- make a file in STATE.night
  write : Happening  -- write all of its bytes
  fsync_file : Happening  -- bring its bytes to the device
  fsync_night : Happening  -- bring the entries of STATE.night to the device
  commit : Happening  -- rename STATE.night to STATE.done
  call : Happening  -- a new call finds STATE.done
  fsync_commit : Happening  -- bring STATE's folder to the device
  put : Happening  -- rename a file from STATE.done to its place, if it stands there
  fsync_place : Happening  -- bring the folder of its place to the device
  rmdir_done : Happening  -- remove STATE.done
  fsync_last : Happening  -- bring STATE's folder to the device: the call ends
  fail : Happening  -- an operation before the commit reports failure: the clean-up begins
  unlink : Happening  -- the clean-up removes a file from STATE.night
  rmdir_night : Happening  -- the clean-up removes STATE.night: the call ends
  kill : Happening  -- the call ends here: killed, or the commit or an operation after it reports failure. Nothing is lost
  also_call : Happening  -- a second call finds STATE.done, and does at the same time what a call does that finds it:
  also_fsync also_put also_place also_rmdir also_last also_kill : Happening
  cut : Happening  -- the power fails: what the device has is all that is left
  land_night : Happening  -- the device gets the entry STATE.night as it is, unasked
  land_done : Happening  -- .. the entry STATE.done
  land_site : Happening  -- .. where a file's entry is (a rename is one item: it lands whole)
  land_text : Happening  -- .. a file's bytes
  land_half : Happening  -- a rename lands by half: the entry in STATE.done is gone, the place has the old file. EXCLUDED by assumption

-- an event, and the files that it is about, by number (all of them where a folder is brought to the device that holds all places)
pub data Deed : Type 0 where
  ◌at◌ : Happening → (ℕ → Bool) → Deed

infix 80 ◌at◌
