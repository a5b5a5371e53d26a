-- No entry asks anything of its arguments. Assumes nothing.
use Rattle.history.specs.Made.{Unasked}

pub unasked : Unasked
unasked =
    record {
      visibility = λ κs a. tt;
      done = λ κs a. tt;
      failed = λ κs a. tt;
      protection = λ κs a. tt;
      default = λ κs a. tt;
      register = λ κs a. tt;
      unregister = λ κs a. tt;
      lock = λ κs a. tt;
      unlock = λ κs a. tt;
      enable = λ κs a. tt;
      tell_enabled = λ κs a. tt;
      tell_default = λ κs a. tt;
      is_overlay = λ κs a. tt;
      query = λ κs a. tt;
      fault = λ κs a. tt;
      lower = λ κs a. tt;
      access = λ κs a. tt;
      build = λ κs a. tt;
    }
