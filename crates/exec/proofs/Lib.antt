mod Beyond
mod CaseLaws
