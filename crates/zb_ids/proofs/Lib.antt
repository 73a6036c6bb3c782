pub mod TimeLaws
