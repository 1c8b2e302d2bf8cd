use Rattle.std.proofs.Common.{rules, ◌≡◌, ◌++◌, ◌∷◌, [], true, false, refl, length, vec_len, ◌-◌, ◌<◌}
use Rattle.std.proofs.lemmas.List.{nil_from_length}
use Rattle.gmp_script.specs.Script.{begins_again}
use Rattle.gmp_script.specs.declared.lines.Line.TheVariants as line
use Rattle.gmp_script.proofs.Parts.{last_of, last_set}
use Rattle.gmp_script.proofs.Reading.{no_script_with_bad, no_script_with_first, no_script_with_again, no_script_with_late, script_with_channel, script_with_clock, script_with_body, script_with_command}
use Rattle.gmp_script.proofs.scripts.Script.add.Goals as goal

not_true : {A : Type 0} → false ≡ true → A
not_true e = cc

not_false : {A : Type 0} → true ≡ false → A
not_false e = cc

pub returns-in_default-clause-bad : goal.returns-in_default-clause-bad
returns-in_default-clause-bad c =
    let none : c.args.self.now.bodies.items ≡ [] = nil_from_length _ (search rules) in
    λ h before s cs rs b. no_script_with_first before c.args.line.now c.in-Some-Command.command c.args.self.now.capacities.items c.args.self.now.readings.items cs rs b (search rules) (rw none at s)

pub returns-then-not-accepts-clause-bad : goal.returns-then-not-accepts-clause-bad
returns-then-not-accepts-clause-bad c =
    let last = last_of c.args.self.now.bodies.items (vec_len c.args.self.now.bodies - 1) c.in-Some.body.now (search rules) (search rules) (search rules) in
    let again : begins_again (c.in-Some.body.now.commands ++ c.in-Some-Command.command ∷ []) ≡ true = search rules in
    λ h before s cs rs b. no_script_with_again before c.args.line.now c.in-Some-Command.command c.args.self.now.capacities.items c.args.self.now.readings.items cs rs _ c.in-Some.body.now b (search rules) again (rw last at s)

pub returns-in-None-clause-bad : goal.returns-in-None-clause-bad
returns-in-None-clause-bad c = λ h before s cs rs b. no_script_with_bad before _ cs rs b (search rules)

pub returns-in_ok-push-in-Some-Body-clause-good : goal.returns-in_ok-push-in-Some-Body-clause-good
returns-in_ok-push-in-Some-Body-clause-good c = λ h before s.
    let m = script_with_body before c.args.line.now c.args.self.now.capacities.items c.args.self.now.readings.items c.args.self.now.bodies.items (search rules) s in
    search (rules, m)

pub returns-in_ok-push-in-Some-Command-clause-good :
    goal.returns-in_ok-push-in-Some-Command-clause-good
returns-in_ok-push-in-Some-Command-clause-good c =
    let full : 0 < length c.args.self.now.bodies.items = search rules in
    let last = last_of c.args.self.now.bodies.items (vec_len c.args.self.now.bodies - 1) c.in-Some.body.now full (search rules) (search rules) in
    let set = last_set c.args.self.now.bodies.items (vec_len c.args.self.now.bodies - 1) c.push-in-Some-Command.new.self full (search rules) in
    let fits : begins_again (c.in-Some.body.now.commands ++ c.in-Some-Command.command ∷ []) ≡ false = search rules in
    λ h before s.
    let m = script_with_command before c.args.line.now c.in-Some-Command.command c.args.self.now.capacities.items c.args.self.now.readings.items _ c.in-Some.body.now (search rules) fits (rw last at s) in
    let new : c.push-in-Some-Command.new.self ≡ record c.in-Some.body.now { commands = c.in-Some.body.now.commands ++ c.in-Some-Command.command ∷ [] } = search rules in
    rw set (rw new m)

pub returns-then-not-is_empty-clause-bad : goal.returns-then-not-is_empty-clause-bad
returns-then-not-is_empty-clause-bad c =
    let some : 0 < length c.args.self.now.bodies.items = search rules in
    λ h before s cs rs b. no_script_with_late before c.args.line.now (line.Channel c.in-Some-Channel.capacity) c.args.self.now.capacities.items c.args.self.now.readings.items cs rs
    c.args.self.now.bodies.items b (search rules) refl some s

pub returns-in_ok-push-in-Some-Channel-clause-good :
    goal.returns-in_ok-push-in-Some-Channel-clause-good
returns-in_ok-push-in-Some-Channel-clause-good c =
    let none : c.args.self.now.bodies.items ≡ [] = nil_from_length _ (search rules) in
    λ h before s.
    let m = script_with_channel before c.args.line.now c.in-Some-Channel.capacity c.args.self.now.capacities.items c.args.self.now.readings.items (search rules) (rw none at s) in
    search (rules, m, none)

pub returns-in_ok-extend_from_slice-in-Some-Clock-clause-good : goal.returns-in_ok-extend_from_slice-in-Some-Clock-clause-good
returns-in_ok-extend_from_slice-in-Some-Clock-clause-good c =
    let none : c.args.self.now.bodies.items ≡ [] = nil_from_length _ (search rules) in
    λ h before s.
    let m = script_with_clock before c.args.line.now c.in-Some-Clock.readings c.args.self.now.capacities.items c.args.self.now.readings.items (search rules) (rw none at s) in
    search (rules, m, none)

pub returns-then-not-is_empty-2-clause-bad : goal.returns-then-not-is_empty-2-clause-bad
returns-then-not-is_empty-2-clause-bad c =
    let some : 0 < length c.args.self.now.bodies.items = search rules in
    λ h before s cs rs b. no_script_with_late before c.args.line.now (line.Clock c.in-Some-Clock.readings) c.args.self.now.capacities.items c.args.self.now.readings.items cs rs
    c.args.self.now.bodies.items b (search rules) refl some s

pub returns-then-not-is_empty-clause-good : goal.returns-then-not-is_empty-clause-good
returns-then-not-is_empty-clause-good c = λ e. not_true e

pub returns-then-not-is_empty-clause-passed_over : goal.returns-then-not-is_empty-clause-passed_over
returns-then-not-is_empty-clause-passed_over c = λ e. (refl, refl, refl)

pub returns-then-not-is_empty-2-clause-good : goal.returns-then-not-is_empty-2-clause-good
returns-then-not-is_empty-2-clause-good c = λ e. not_true e

pub returns-then-not-is_empty-2-clause-passed_over : goal.returns-then-not-is_empty-2-clause-passed_over
returns-then-not-is_empty-2-clause-passed_over c = λ e. (refl, refl, refl)

pub returns-in_default-clause-good : goal.returns-in_default-clause-good
returns-in_default-clause-good c = λ e. not_true e

pub returns-then-not-accepts-clause-good : goal.returns-then-not-accepts-clause-good
returns-then-not-accepts-clause-good c = λ e. not_true e

pub returns-in-None-clause-good : goal.returns-in-None-clause-good
returns-in-None-clause-good c = λ e. not_true e

pub returns-in-None-clause-passed_over : goal.returns-in-None-clause-passed_over
returns-in-None-clause-passed_over c = λ e. (refl, refl, refl)

pub returns-in-Some-Nothing-clause-bad : goal.returns-in-Some-Nothing-clause-bad
returns-in-Some-Nothing-clause-bad c = λ e. not_false e

pub returns-in-Some-Nothing-clause-passed_over : goal.returns-in-Some-Nothing-clause-passed_over
returns-in-Some-Nothing-clause-passed_over c = λ e. not_false e

pub returns-in_ok-push-in-Some-Body-clause-bad : goal.returns-in_ok-push-in-Some-Body-clause-bad
returns-in_ok-push-in-Some-Body-clause-bad c = λ e. not_false e

pub returns-in_ok-push-in-Some-Body-clause-passed_over : goal.returns-in_ok-push-in-Some-Body-clause-passed_over
returns-in_ok-push-in-Some-Body-clause-passed_over c = λ e. not_false e

pub returns-in_ok-push-in-Some-Channel-clause-bad : goal.returns-in_ok-push-in-Some-Channel-clause-bad
returns-in_ok-push-in-Some-Channel-clause-bad c = λ e. not_false e

pub returns-in_ok-push-in-Some-Channel-clause-passed_over : goal.returns-in_ok-push-in-Some-Channel-clause-passed_over
returns-in_ok-push-in-Some-Channel-clause-passed_over c = λ e. not_false e

pub returns-in_ok-extend_from_slice-in-Some-Clock-clause-bad : goal.returns-in_ok-extend_from_slice-in-Some-Clock-clause-bad
returns-in_ok-extend_from_slice-in-Some-Clock-clause-bad c = λ e. not_false e

pub returns-in_ok-extend_from_slice-in-Some-Clock-clause-passed_over : goal.returns-in_ok-extend_from_slice-in-Some-Clock-clause-passed_over
returns-in_ok-extend_from_slice-in-Some-Clock-clause-passed_over c = λ e. not_false e

pub returns-in_ok-push-in-Some-Command-clause-bad : goal.returns-in_ok-push-in-Some-Command-clause-bad
returns-in_ok-push-in-Some-Command-clause-bad c = λ e. not_false e

pub returns-in_ok-push-in-Some-Command-clause-passed_over : goal.returns-in_ok-push-in-Some-Command-clause-passed_over
returns-in_ok-push-in-Some-Command-clause-passed_over c = λ e. not_false e
